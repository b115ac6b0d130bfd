-- Texts in the order of their bytes are in the order of their characters.
use Rattle.std.proofs.Common.{◌≡◌, List, ℕ, Bool, true, false, chars, refl, sym, ap, ap₂, ◌∙◌}
use Rattle.std.proofs.lemmas.Bool.{true≢false}
use Rattle.documents.specs.Tests.{comes_before}
use Rattle.documents.proofs.NameOrder.{comes_before-same, comes_before-trans}
use Rattle.js_doc.proofs.WordOrder.{comes_before-chars, comes_after-chars, same_text}
use Rattle.js_text.proofs.part_reader.comes_before.Goals as goal

later : (v w : List ℕ) → comes_before w v ≡ true → comes_before v w ≡ false
later v w h = go (comes_before v w) (λ e. comes_before-trans v w v e h) where
  go : (b : Bool) → (b ≡ true → comes_before v v ≡ true) → b ≡ false
  go true f = absurd (true≢false (sym (f refl) ∙ comes_before-same v))
  go false f = refl

pub returns-in-Less : goal.returns-in-Less
returns-in-Less c =
    sym (comes_before-chars c.as_text.result.now c.as_text-2.result.now c.as_text.utf8 c.as_text-2.utf8
    (sym c.in-Less.ensures))
    ∙ ap₂ comes_before c.as_text.ensures.text c.as_text-2.ensures.text

pub returns-in-Equal : goal.returns-in-Equal
returns-in-Equal c =
    let same = same_text c.as_text.result.now c.as_text-2.result.now (sym c.in-Equal.ensures) in
    sym (ap₂ comes_before (sym c.as_text.ensures.text ∙ ap chars same) (sym c.as_text-2.ensures.text)
    ∙ comes_before-same (chars c.as_text-2.result.now))

pub returns-in-Greater : goal.returns-in-Greater
returns-in-Greater c =
    sym (ap₂ comes_before (sym c.as_text.ensures.text) (sym c.as_text-2.ensures.text)
    ∙ later (chars c.as_text.result.now) (chars c.as_text-2.result.now)
    (comes_after-chars c.as_text.result.now c.as_text-2.result.now c.as_text.utf8 c.as_text-2.utf8
    (sym c.in-Greater.ensures)))
