-- The lines that are left after each plan that is visited.
use Rattle.std.proofs.Common.{◌≡◌, ℕ, suc, ◌<◌, ◌≤◌, List, [], ◌∷◌, ◌++◌, map, flat_map, take, drop, length, reverse, true, false, cond, Option, Some, None, refl, arith, ap, ap₂, sym, ◌∙◌, subst, append-nil, append_assoc, drop-cons}
use Rattle.std.proofs.lemmas.Bool.{and_parts}
use Rattle.std.proofs.lemmas.List.{length-append, take-append-le, drop_all}
use Rattle.std.proofs.Math.Seq.{take-length}
use Rattle.documents.specs.Tests.{every}
use Rattle.positions.specs.Position.{Position}
use Rattle.goals.specs.Signed.{Signed, Plus}
use Rattle.frames.specs.Frame.{Frame, is_at_end}
use Rattle.frames.specs.Plan.{Plan, options, size, first_clash}
use Rattle.certificate_lines.specs.Line as L
use Rattle.certificate_lines.specs.Line.{Line}
use Rattle.verdicts.specs.Duties.{Form}
use Rattle.refutations.specs.PlanTreeLines.{at_line, complete_line, unless_clash, lines_from, plan_lines}
use Rattle.js_plans.specs.declared.server.Server.{Server}
use Rattle.js_plans.specs.Serving.{serve, plan_after}
use Rattle.js_plans.specs.Servers.{cells_of, is_valid}
use Rattle.js_plans.specs.Choosing.{next_demand, choices_after}
use Rattle.js_plan_lines.specs.declared.tree.Pending.{Pending}
use Rattle.js_plan_lines.specs.Reach.{IsPath}
use Rattle.js_plan_lines.specs.Kept.{IsClear, WasClear}
use Rattle.js_plan_lines.specs.Left.{entry, Fits, AreFine, AreClear, lines_after, lines_left, Visits}
use Rattle.js_plan_lines.proofs.Plans.{path-take, path-push}
use Rattle.js_plan_lines.proofs.Keeping.{cut-last}
use Rattle.js_plans.proofs.Options.{options-choices, choices-valid}
use Rattle.js_plans.proofs.Plans.{next-plan}
use Rattle.list_laws.proofs.Lists.{reverse-last}

module _ (frame : Frame) where
  fine-more : (ws zs : List Server) (es : List Pending) → AreFine frame ws es → AreFine frame (ws ++ zs) es
  fine-more ws zs [] f = tt
  fine-more ws zs (e ∷ es) f = (
    omega (arith, f.0, length-append ws zs),
    subst (λ us. Fits frame us e.server) (sym (take-append-le e.level ws zs f.0)) f.1,
    subst (λ us. AreFine frame us es) (sym (take-append-le e.level ws zs f.0)) f.2,
  )

  fine-entries : (ws ss : List Server) (es : List Pending) → length ws < length frame.demands
      → every (is_valid frame.heads (length (cells_of ws))) ss ≡ true → AreFine frame ws es
      → AreFine frame ws (map (entry (length ws)) ss ++ es)
  fine-entries ws [] es l v f = f
  fine-entries ws (s ∷ ss) es l v f =
      let (a, b) = and_parts (is_valid frame.heads (length (cells_of ws)) s) _ v in
      let rest = fine-entries ws ss es l b f in (
        omega arith,
        subst (λ us. Fits frame us s) (sym (take-length ws)) (l, a),
        subst (λ us. AreFine frame us (map (entry (length ws)) ss ++ es)) (sym (take-length ws)) rest,
      )

module _ (T : List Position) (frame : Frame) where
  clear-more : (ws zs : List Server) (es : List Pending) → AreFine frame ws es → AreClear T frame ws es
      → AreClear T frame (ws ++ zs) es
  clear-more ws zs [] f c = tt
  clear-more ws zs (e ∷ es) f c =
      subst (λ us. IsClear T frame us × AreClear T frame us es) (sym (take-append-le e.level ws zs f.0)) c

  clear-entries : (ws ss : List Server) (es : List Pending) → IsClear T frame ws → AreClear T frame ws es
      → AreClear T frame ws (map (entry (length ws)) ss ++ es)
  clear-entries ws [] es clear c = c
  clear-entries ws (s ∷ ss) es clear c =
      subst (λ us. IsClear T frame us × AreClear T frame us (map (entry (length ws)) ss ++ es)) (sym (take-length ws))
      (clear, clear-entries ws ss es clear c)

pub empty-path : (frame : Frame) (ws : List Server) → ws ≡ [] → IsPath frame ws
empty-path frame ws e = subst (IsPath frame) (sym e) (record { few = omega arith; valid = refl })

module _ (number : List Signed → Option ℕ) (form : Form) (T : List Position) (frame : Frame) where
  abbrev after : List Server → List Line
  after ws = lines_after number form T frame ws

  abbrev left : List Server → List Pending → List Line
  left ws es = lines_left number form T frame ws es

  -- servers that come later change nothing of what comes before them
  left-more : (ws zs : List Server) (es : List Pending) → AreFine frame ws es → left (ws ++ zs) es ≡ left ws es
  left-more ws zs [] f = refl
  left-more ws zs (e ∷ es) f = ap (λ us. after (us ++ e.server ∷ []) ++ left us es) (take-append-le e.level ws zs f.0)

  left-entries : (ws ss : List Server) (es : List Pending) → left ws (map (entry (length ws)) ss ++ es)
      ≡ flat_map (λ s. after (ws ++ s ∷ [])) ss ++ left ws es
  left-entries ws [] es = refl
  left-entries ws (s ∷ ss) es =
      ap (λ us. after (us ++ s ∷ []) ++ left us (map (entry (length ws)) ss ++ es)) (take-length ws)
      ∙ ap (λ rs. after (ws ++ s ∷ []) ++ rs) (left-entries ws ss es)
      ∙ sym (append_assoc (after (ws ++ s ∷ [])) (flat_map (λ s. after (ws ++ s ∷ [])) ss) (left ws es))

  over : (ds : List Signed) (p : Plan) → is_at_end (size frame p) frame.below ≡ true
      → lines_from number form T frame ds p ≡ L.Count ∷ []
  over [] p e =
      ap (λ b. cond b (L.Count ∷ []) (unless_clash number form T frame p (first_clash T frame p)
      (complete_line number form T frame p ∷ []))) e
  over (d ∷ ds) p e =
      ap (λ b. cond b (L.Count ∷ []) (unless_clash number form T frame p (first_clash T frame p)
      (L.Split ∷ flat_map (lines_from number form T frame ds) (options frame d p)))) e

  -- what follows where a plan isn't over
  by_clash : (p : Plan) (ls : List Line) (o : Option ℕ) → is_at_end (size frame p) frame.below ≡ false
      → first_clash T frame p ≡ o → cond (is_at_end (size frame p) frame.below) (L.Count ∷ [])
      (unless_clash number form T frame p (first_clash T frame p) ls) ≡ unless_clash number form T frame p o ls
  by_clash p ls o under e =
      ap (λ b. cond b (L.Count ∷ []) (unless_clash number form T frame p (first_clash T frame p) ls)) under
      ∙ ap (λ x. unless_clash number form T frame p x ls) e

  clashing : (ds : List Signed) (p : Plan) (k : ℕ) → is_at_end (size frame p) frame.below ≡ false
      → first_clash T frame p ≡ Some k → lines_from number form T frame ds p ≡ at_line form frame p k L.Clashes ∷ []
  clashing [] p k under e = by_clash p (complete_line number form T frame p ∷ []) (Some k) under e
  clashing (d ∷ ds) p k under e =
      by_clash p (L.Split ∷ flat_map (lines_from number form T frame ds) (options frame d p)) (Some k) under e

  -- the options of a plan are the plans of one more server
  option-lines : (ws ss : List Server) → length ws < length frame.demands
      → flat_map (lines_from number form T frame (drop (suc (length ws)) frame.demands))
      (map (serve (next_demand frame ws) (plan_after frame ws)) ss) ≡ flat_map (λ s. after (ws ++ s ∷ [])) ss
  option-lines ws [] l = refl
  option-lines ws (s ∷ ss) l =
      let count : suc (length ws) ≡ length (ws ++ s ∷ []) = omega (arith, length-append ws (s ∷ [])) in
      ap₂ (λ a b. a ++ b)
      (ap₂ (λ p n. lines_from number form T frame (drop n frame.demands) p) (sym (next-plan frame ws s l)) count)
      (option-lines ws ss l)

  lines-split : (ws : List Server) → length ws < length frame.demands
      → is_at_end (size frame (plan_after frame ws)) frame.below ≡ false
      → first_clash T frame (plan_after frame ws) ≡ None
      → after ws ≡ L.Split ∷ flat_map (λ s. after (ws ++ s ∷ [])) (choices_after frame ws)
  lines-split ws l under clear =
      let p = plan_after frame ws in
      let d = next_demand frame ws in
      let ds = drop (suc (length ws)) frame.demands in
      ap (λ us. lines_from number form T frame us p) (drop-cons frame.demands (length ws) (Plus 0) l)
      ∙ by_clash p (L.Split ∷ flat_map (lines_from number form T frame ds) (options frame d p)) None under clear
      ∙ ap (λ ps. L.Split ∷ flat_map (lines_from number form T frame ds) ps) (options-choices frame d p)
      ∙ ap (λ ls. L.Split ∷ ls) (option-lines ws (choices_after frame ws) l)

  lines-complete : (ws : List Server) → length frame.demands ≤ length ws
      → is_at_end (size frame (plan_after frame ws)) frame.below ≡ false
      → first_clash T frame (plan_after frame ws) ≡ None
      → after ws ≡ complete_line number form T frame (plan_after frame ws) ∷ []
  lines-complete ws l under clear =
      let p = plan_after frame ws in
      ap (λ us. lines_from number form T frame us p) (drop_all (length ws) frame.demands l)
      ∙ by_clash p (complete_line number form T frame p ∷ []) None under clear

  -- a plan is visited
  module _ (ws : List Server) (ps : List Pending) (before now : List Line) where
    ends : (l : Line) → now ≡ before ++ l ∷ [] → after ws ≡ l ∷ [] → Visits number form T frame ws ps ps before now
    ends l added e = record {
      line = l;
      added = added;
      told = ap (λ ls. ls ++ left ws (reverse ps)) e;
      fine = λ f. f;
      clear = λ c. c;
    }

    pub visits-over : now ≡ before ++ L.Count ∷ []
        → is_at_end (size frame (plan_after frame ws)) frame.below ≡ true
        → Visits number form T frame ws ps ps before now
    visits-over added e = ends L.Count added (over (drop (length ws) frame.demands) (plan_after frame ws) e)

    pub visits-clash : (k : ℕ) → is_at_end (size frame (plan_after frame ws)) frame.below ≡ false
        → first_clash T frame (plan_after frame ws) ≡ Some k
        → now ≡ before ++ at_line form frame (plan_after frame ws) k L.Clashes ∷ []
        → Visits number form T frame ws ps ps before now
    visits-clash k under e added =
        ends (at_line form frame (plan_after frame ws) k L.Clashes) added
        (clashing (drop (length ws) frame.demands) (plan_after frame ws) k under e)

    pub visits-complete : length frame.demands ≤ length ws
        → is_at_end (size frame (plan_after frame ws)) frame.below ≡ false
        → first_clash T frame (plan_after frame ws) ≡ None
        → now ≡ before ++ complete_line number form T frame (plan_after frame ws) ∷ []
        → Visits number form T frame ws ps ps before now
    visits-complete l under clear added =
        ends (complete_line number form T frame (plan_after frame ws)) added (lines-complete ws l under clear)

    pub visits-split : (qs : List Pending) → length ws < length frame.demands
        → is_at_end (size frame (plan_after frame ws)) frame.below ≡ false
        → first_clash T frame (plan_after frame ws) ≡ None
        → reverse qs ≡ map (entry (length ws)) (choices_after frame ws) ++ reverse ps
        → now ≡ before ++ L.Split ∷ [] → Visits number form T frame ws ps qs before now
    visits-split qs l under clear more added = record {
      line = L.Split;
      added = added;
      told =
          ap (λ ls. ls ++ left ws (reverse ps)) (lines-split ws l under clear)
          ∙ ap (λ ls. L.Split ∷ ls)
          (sym (left-entries ws (choices_after frame ws) (reverse ps)) ∙ ap (left ws) (sym more));
      fine = λ f.
          subst (AreFine frame ws) (sym more)
          (fine-entries frame ws (choices_after frame ws) (reverse ps) l (choices-valid frame ws (omega (arith, l))) f);
      clear = λ c.
          subst (AreClear T frame ws) (sym more)
          (clear-entries T frame ws (choices_after frame ws) (reverse ps) clear c);
    }

  -- lines so far and lines that are left
  told-all : (before now all ls rest : List Line) (l : Line) → now ≡ before ++ l ∷ [] → ls ≡ l ∷ rest
      → before ++ ls ≡ all → now ++ rest ≡ all
  told-all before now all ls rest l added e sum =
      ap (λ us. us ++ rest) added ∙ append_assoc before (l ∷ []) rest ∙ ap (λ us. before ++ us) (sym e) ∙ sum

  -- the plan that serves nothing
  module _ (ws : List Server) (ps qs : List Pending) (before now : List Line) (none : ws ≡ []) (no : ps ≡ [])
      (v : Visits number form T frame ws ps qs before now) where
    pub first-fine : AreFine frame ws (reverse qs)
    first-fine = v.fine (subst (λ es. AreFine frame ws (reverse es)) (sym no) tt)

    pub first-clear : AreClear T frame ws (reverse qs)
    first-clear = v.clear (subst (λ es. AreClear T frame ws (reverse es)) (sym no) tt)

    pub first-lines : now ++ left ws (reverse qs) ≡ before ++ plan_lines number form T frame
    unfolding plan_lines
    first-lines =
        told-all before now _ (after ws ++ left ws (reverse ps)) (left ws (reverse qs)) v.line v.added v.told
        (ap (λ us. before ++ us)
        (ap₂ (λ us es. after us ++ left us (reverse es)) none no ∙ append-nil (after [])))

  -- it goes on from a part of the path
  pub next-level : (path : List Server) (es old : List Pending) (e : Pending) → old ≡ es ++ e ∷ []
      → AreFine frame path (reverse old) → e.level ≤ length path
  next-level path es old e q fine = (subst (λ us. AreFine frame path us) (reverse-last es old e q) fine).0

  -- the next plan
  module _ (path path' : List Server) (es old : List Pending) (e : Pending)
      (q : old ≡ es ++ e ∷ []) (cut : path' ≡ take e.level path ++ e.server ∷ [])
      (fine : AreFine frame path (reverse old)) where
    at_next : AreFine frame path (e ∷ reverse es)
    at_next = subst (λ us. AreFine frame path us) (reverse-last es old e q) fine

    pub next-path : IsPath frame path → IsPath frame path'
    next-path p =
        subst (IsPath frame) (sym cut)
        (path-push frame (take e.level path) e.server (path-take frame e.level path p) at_next.1)

    clear_next : AreClear T frame path (reverse old) → AreClear T frame path (e ∷ reverse es)
    clear_next c = subst (λ us. AreClear T frame path us) (reverse-last es old e q) c

    pub next-was : AreClear T frame path (reverse old) → WasClear T frame path'
    next-was c l = subst (IsClear T frame) (sym (cut-last path' (take e.level path) e.server cut)) (clear_next c).0

    next-left : left path (reverse old) ≡ after path' ++ left path' (reverse es)
    next-left =
        ap (left path) (reverse-last es old e q)
        ∙ ap₂ (λ us ls. after us ++ ls) (sym cut)
        (sym (left-more (take e.level path) (e.server ∷ []) (reverse es) at_next.2)
        ∙ ap (λ us. left us (reverse es)) (sym cut))

    module _ (qs : List Pending) (before now all : List Line)
        (v : Visits number form T frame path' es qs before now) where
      pub next-fine : AreFine frame path' (reverse qs)
      next-fine =
          v.fine
          (subst (λ us. AreFine frame us (reverse es)) (sym cut)
          (fine-more frame (take e.level path) (e.server ∷ []) (reverse es) at_next.2))

      pub next-clear : AreClear T frame path (reverse old) → AreClear T frame path' (reverse qs)
      next-clear c =
          v.clear
          (subst (λ us. AreClear T frame us (reverse es)) (sym cut)
          (clear-more T frame (take e.level path) (e.server ∷ []) (reverse es) at_next.2 (clear_next c).1))

      pub next-lines : before ++ left path (reverse old) ≡ all → now ++ left path' (reverse qs) ≡ all
      next-lines sum =
          told-all before now all (left path (reverse old)) (left path' (reverse qs)) v.line v.added
          (next-left ∙ v.told)
          sum

      -- one line fewer is left
      pub next-fewer : length (left path' (reverse qs)) < length (left path (reverse old))
      next-fewer = omega (arith, ap length (next-left ∙ v.told))
