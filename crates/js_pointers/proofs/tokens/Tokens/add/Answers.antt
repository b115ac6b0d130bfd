use Rattle.std.proofs.Common.{◌≡◌, ◌+◌, ◌++◌, ◌∷◌, ℕ, [], length, map, position, None, chars, bytes_eq, string_bytes, Some, refl, subst, sym, ap, ◌∙◌, arith}
use Rattle.std.specs.Prelude.{Option}
use Rattle.std.specs.String.{string_cmp}
use Rattle.std.specs.BTreeMap.{Updates}
use Rattle.js_pointers.specs.Table.{IsWord, AreNames, Keeps}
use Rattle.js_pointers.specs.NamePlaces.{ArePlaces}
use Rattle.js_pointers.specs.TokensView.{names_of}
use Rattle.js_pointers.proofs.TableLemmas.{text, position-words, named}
use Rattle.js_pointers.proofs.NamesLemmas.{more_places}
use Rattle.js_pointers.proofs.GrowthLemmas.{name-table, name-keeps, name-last}
use Rattle.js_pointers.proofs.tokens.Tokens.add.Goals as goal

pub invariant_of-self-in_default-insert-clause-are_names : goal.invariant_of-self-in_default-insert-clause-are_names
invariant_of-self-in_default-insert-clause-are_names c =
    let t = c.args.self.now in
    subst (λ ts. AreNames (map text ts)) (sym c.in_ok-push.ensures.items)
    (name-table t.names.items c.in_ok-name.name t.are_names
    (subst (λ b. (k : ℕ) → IsWord (names_of t) k (chars b) → ⊥) (sym c.in_ok-name.ensures.ok) c.in_default.ensures))

pub invariant_of-self-in_default-insert-clause-are_places : goal.invariant_of-self-in_default-insert-clause-are_places
invariant_of-self-in_default-insert-clause-are_places c =
    let t = c.args.self.now in
    let size : c.len-place.result ≡ length t.names.items = omega (arith, c.len-place.ensures) in
    subst (λ ts. ArePlaces ts c.insert.new.self) (sym c.in_ok-push.ensures.items)
    (more_places t.names.items t.places c.insert.new.self c.in_ok-name.name c.in_ok-key.key
    (c.in_ok-key.ensures.ok ∙ sym c.in_ok-name.ensures.ok) t.are_places
    (ap (λ b. position (λ w. bytes_eq b (string_bytes w)) t.names.items) c.in_ok-name.ensures.ok
    ∙ missing (position (λ w. bytes_eq c.args.text.now (string_bytes w)) t.names.items) refl)
    (subst (λ n. Updates string_cmp t.places c.insert.new.self c.in_ok-key.key (Some n)) size
    c.in_default-insert.ensures.updates))
  where
    missing : (o : Option ℕ)
        → position (λ w. bytes_eq c.args.text.now (string_bytes w)) c.args.self.now.names.items ≡ o → o ≡ None
    missing None e = refl
    missing (Some i) e =
        absurd (c.in_default.ensures (2147483648 + i) (named (names_of c.args.self.now) (chars c.args.text.now) i
        (sym (position-words c.args.text.now c.utf8.text c.args.self.now.names.items) ∙ e)))

pub returns-clause-keeps : goal.returns-clause-keeps
returns-clause-keeps c =
    let t = c.args.self.now in
    subst (λ ts. Keeps (names_of t) (map text ts)) (sym c.in_ok-push.ensures.items)
    (name-keeps t.names.items c.in_ok-name.name)

pub returns-clause-word : goal.returns-clause-word
returns-clause-word c =
    let t = c.args.self.now in
    let size : c.len-place.result ≡ length t.names.items = omega (arith, c.len-place.ensures) in
    subst (λ ts. IsWord (map text ts) (2147483648 + c.len-place.result) (chars c.args.text.now))
    (sym c.in_ok-push.ensures.items)
    (subst (λ n. IsWord (map text (t.names.items ++ c.in_ok-name.name ∷ [])) (2147483648 + n) (chars c.args.text.now))
    (sym size)
    (subst (λ b. IsWord (map text (t.names.items ++ c.in_ok-name.name ∷ [])) (2147483648 + length t.names.items)
    (chars b)) c.in_ok-name.ensures.ok (name-last t.names.items c.in_ok-name.name)))
