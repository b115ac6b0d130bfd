-- The validator's answer over the entries of a schema is validity for the schema's value.
use Rattle.std.proofs.Common.{◌≡◌, ℕ, List, true, get_or, Option, Some, None, Result, Ok, Err, refl, ap, sym, ◌∙◌}
use Rattle.std.proofs.Math.Path.{fun_ext}
use Rattle.documents.specs.Document.{Document}
use Rattle.documents.specs.Json.{Json}
use Rattle.documents.specs.WellFormed.{is_json}
use Rattle.patterns.specs.Tree.{Tree}
use Rattle.schemas.specs.Fault.{Fault}
use Rattle.schemas.specs.Walk.{places}
use Rattle.schemas.specs.Reading.{first_fault}
use Rattle.schemas.specs.Entry.{Entry}
use Rattle.schemas.specs.Entries.{read, entries_at, entries_or}
use Rattle.schemas.specs.Guarded.{edges, are_ranks}
use Rattle.js_pattern.specs.Grammar.{pattern}
use Rattle.js_pattern.specs.declared.fault.PatternFault.{PatternFault}
use Rattle.js_json.specs.declared.fault.RefFault.{RefFault}
use Rattle.js_keywords.specs.Reading.{rules}
use Rattle.js_reader.proofs.Soundness.{rules_sound}
use Rattle.draft06.specs.Matching.{finds_tree, finds_text}
use Rattle.draft06.specs.Validity.{valid}
use Rattle.draft06.specs.EntryValidity.{entry_valid}
use Rattle.draft06_laws.proofs.RankLaws.{fall_in_place}
use Rattle.draft06_laws.proofs.ValidityLaws.{entry_valid-valid}
use Rattle.js_match.specs.Matching.{read_finds, matches}

found_alike : (r : Result Tree PatternFault) (w : List ℕ) → read_finds r w ≡ finds_tree r w
found_alike (Ok t) w = refl
found_alike (Err f) w = refl

-- patterns match alike for the validator and in the definition
matches-finds_text : (t w : List ℕ) → matches t w ≡ finds_text rules t w
unfolding matches
matches-finds_text t w = found_alike (pattern t) w

same_matches : matches ≡ finds_text rules
same_matches = fun_ext (λ t. fun_ext (λ w. matches-finds_text t w))

of_faults : (j : Json) (es : List Entry) (ranks : List ℕ) (d : Document) (o : Option (Fault PatternFault RefFault))
    → first_fault rules j ≡ o → is_json j ≡ true → entries_or rules j o ≡ Ok es → are_ranks (edges es) ranks ≡ true
    → entry_valid matches es 0 d ≡ valid rules j d
of_faults j es ranks d (Some f) none w e h = cc
of_faults j es ranks d None none w e h =
    let same : entries_at rules j (places rules j) ≡ es = cc in
    ap (λ m. entry_valid m es 0 d) same_matches
    ∙ ap (λ l. entry_valid (finds_text rules) l 0 d) (sym same)
    ∙ entry_valid-valid rules j (rules_sound j w) none (λ e. get_or ranks e 0)
    (fall_in_place (entries_at rules j (places rules j)) ranks (ap (λ l. are_ranks (edges l) ranks) same ∙ h)) d

-- a document is valid for a schema's first entry exactly where it is valid for the schema's value
pub entries-valid : (j : Json) (es : List Entry) (ranks : List ℕ) (d : Document) → is_json j ≡ true
    → read rules j ≡ Ok es → are_ranks (edges es) ranks ≡ true
    → entry_valid matches es 0 d ≡ valid rules j d
entries-valid j es ranks d w e h = of_faults j es ranks d (first_fault rules j) refl w e h
