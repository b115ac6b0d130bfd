use Rattle.std.proofs.Common.{◌≡◌, ℕ, nat_eq, if◌then◌else◌, sym, ap, subst, ◌∙◌, length}
use Rattle.js_schema.specs.SchemaView.{schema_view}
use Rattle.js_valid.specs.Plan.{HasTargets, target_at}
use Rattle.js_valid.proofs.TargetLaws.{targets-all, targets-set}
use Rattle.js_valid.proofs.targets.targets_of.Goals.{in-Some, in_default}
use Rattle.js_valid.proofs.targets.targets_of.Goals as goal

pub loop-entry-init : goal.loop-entry-init
loop-entry-init c = record {
  len = c.in_ok-targets.ensures.0 ∙ c.len.ensures.value;
  targets = targets-all (schema_view c.args.schema.now) c.len.result c.in_ok-targets.targets.items
      c.in_ok-targets.ensures.0 c.in_ok-targets.ensures.1;
}

pub loop-entry-preserved : goal.loop-entry-preserved
loop-entry-preserved c =
    let es = schema_view c.args.schema.now in
    let old = c.loop-entry.targets.items in
    elim c.match-reference_at.branch [
      | in-Some w ↦
          let put : (j : ℕ) → target_at w.put.new.targets.items j
          ≡ (if nat_eq _ j then target_at old w.in-Some.next else target_at old j) =
          λ j. w.put.ensures.value j ∙ ap (λ t. if nat_eq _ j then t else target_at old j)
          (w.target_at-target.ensures ∙ ap (λ xs. target_at xs w.in-Some.next) w.deref.ensures.value) in
          record {
            len = ap (λ v. length v.items) w.targets-is ∙ w.put.ensures.len ∙ c.loop-entry.invariant.len;
            targets = subst (λ v. HasTargets es v.items) (sym w.targets-is)
                (targets-set es c.args.order.now c.requires _ w.in-Some.next old w.put.new.targets.items
                w.in-Some.ensures c.loop-entry.invariant.targets put);
          }
      | in_default w ↦ record {
        len = ap (λ v. length v.items) w.targets-is ∙ c.loop-entry.invariant.len;
        targets = subst (λ v. HasTargets es v.items) (sym w.targets-is) c.loop-entry.invariant.targets;
      }
    ]
