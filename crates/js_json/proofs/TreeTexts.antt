-- JSON that is read from tokens whose texts are UTF-8 has such texts.
use Rattle.std.proofs.Common.{ℕ, zero, suc, List, [], ◌∷◌, length, Option, Some, None, option_and_then, IsUtf8}
use Rattle.json.specs.Token.{Token}
use Rattle.json.specs.Json.{Json, array, object, Items, item, Members, member, Parse, parse_map, after_end_array, read_key, items_step, members_step, items, members, value_with, value, if_last}
use Rattle.js_json.proofs.DataTexts.{Given, TextsOf, TextsOfItems, TextsOfMembers}

-- the text of a name or of a string
abbrev pub TextOf : Token → Type 0
TextOf Token.begin_object = Unit {0}
TextOf Token.end_object = Unit {0}
TextOf Token.begin_array = Unit {0}
TextOf Token.end_array = Unit {0}
TextOf (Token.key s) = IsUtf8 s
TextOf (Token.string s) = IsUtf8 s
TextOf (Token.number s) = Unit {0}
TextOf (Token.boolean b) = Unit {0}
TextOf Token.null = Unit {0}
TextOf Token.bad = Unit {0}

abbrev pub TextsOfTokens : List Token → Type 0
TextsOfTokens [] = Unit {0}
TextsOfTokens (t ∷ ts) = TextOf t × TextsOfTokens ts

-- what was read, and the tokens that are left
abbrev Read : {A : Type 0} → (A → Type 0) → A × List Token → Type 0
Read P p = P p.0 × TextsOfTokens p.1

abbrev Reads : {A : Type 0} → (A → Type 0) → Parse A → Type 0
Reads P parse = (ts : List Token) → TextsOfTokens ts → Given (Read P) (parse ts)

mapped : {A B : Type 0} (P : A → Type 0) (Q : B → Type 0) (f : A → B) → ((a : A) → P a → Q (f a))
    → (o : Option (A × List Token))
    → Given (Read P) o → Given (Read Q) (parse_map f o)
mapped P Q f so None h = tt
mapped P Q f so (Some p) h = (so p.0 h.0, h.1)

and_more : {B : Type 0} (Q : B → Type 0) (f : Json → B → B)
    → ((j : Json) (b : B) → TextsOf j → Q b → Q (f j b)) → (more : Parse B) → Reads Q more
    → (o : Option (Json × List Token)) → Given (Read TextsOf) o
    → Given (Read Q) (option_and_then (λ p. parse_map (f p.0) (more p.1)) o)
and_more Q f so more reads None h = tt
and_more Q f so more reads (Some p) h = mapped Q Q (f p.0) (λ b k. so p.0 b h.0 k) (more p.1) (reads p.1 h.1)

left_after_array : (ts : List Token) → TextsOfTokens ts → Given TextsOfTokens (after_end_array ts)
left_after_array [] h = tt
left_after_array (Token.begin_object ∷ ts) h = tt
left_after_array (Token.end_object ∷ ts) h = tt
left_after_array (Token.begin_array ∷ ts) h = tt
left_after_array (Token.end_array ∷ ts) h = h.1
left_after_array (Token.key s ∷ ts) h = tt
left_after_array (Token.string s ∷ ts) h = tt
left_after_array (Token.number s ∷ ts) h = tt
left_after_array (Token.boolean b ∷ ts) h = tt
left_after_array (Token.null ∷ ts) h = tt
left_after_array (Token.bad ∷ ts) h = tt

key_read : (ts : List Token) → TextsOfTokens ts → Given (Read (Given IsUtf8)) (read_key ts)
key_read [] h = tt
key_read (Token.begin_object ∷ ts) h = tt
key_read (Token.end_object ∷ ts) h = (tt, h.1)
key_read (Token.begin_array ∷ ts) h = tt
key_read (Token.end_array ∷ ts) h = tt
key_read (Token.key s ∷ ts) h = h
key_read (Token.string s ∷ ts) h = tt
key_read (Token.number s ∷ ts) h = tt
key_read (Token.boolean b ∷ ts) h = tt
key_read (Token.null ∷ ts) h = tt
key_read (Token.bad ∷ ts) h = tt

module _ (p : Parse Json) (reads : Reads TextsOf p) where
  item_turn : (more : Parse Items) → Reads TextsOfItems more → (ts : List Token) → TextsOfTokens ts
      → (o : Option (List Token)) → Given TextsOfTokens o
      → Given (Read TextsOfItems) (items_step p more ts o)
  item_turn more again ts h (Some r) k = (tt, k)
  item_turn more again ts h None k =
      and_more TextsOfItems item (λ j b x y. (x, y)) more again (p ts) (reads ts h)

  Reads-items : (n : ℕ) → Reads TextsOfItems (items p n)
  unfolding items
  Reads-items zero ts h = tt
  Reads-items (suc n) ts h =
      item_turn (items p n) (Reads-items n) ts h (after_end_array ts) (left_after_array ts h)

  member_turn : (more : Parse Members) → Reads TextsOfMembers more
      → (o : Option (Option (List ℕ) × List Token)) → Given (Read (Given IsUtf8)) o
      → Given (Read TextsOfMembers) (option_and_then (λ q. members_step p more q.0 q.1) o)
  member_turn more again None h = tt
  member_turn more again (Some (None, s)) h = (tt, h.1)
  member_turn more again (Some (Some k, s)) h =
      and_more TextsOfMembers (member k) (λ j b x y. (h.0, x, y)) more again (p s) (reads s h.1)

  Reads-members : (n : ℕ) → Reads TextsOfMembers (members p n)
  unfolding members
  Reads-members zero ts h = tt
  Reads-members (suc n) ts h = member_turn (members p n) (Reads-members n) (read_key ts) (key_read ts h)

one_level : (a : Parse Items) (o : Parse Members) → Reads TextsOfItems a → Reads TextsOfMembers o
    → Reads TextsOf (value_with a o)
one_level a o p q [] h = tt
one_level a o p q (Token.begin_object ∷ ts) h =
    mapped TextsOfMembers TextsOf object (λ ms x. x) (o ts) (q ts h.1)
one_level a o p q (Token.end_object ∷ ts) h = tt
one_level a o p q (Token.begin_array ∷ ts) h = mapped TextsOfItems TextsOf array (λ js x. x) (a ts) (p ts h.1)
one_level a o p q (Token.end_array ∷ ts) h = tt
one_level a o p q (Token.key s ∷ ts) h = tt
one_level a o p q (Token.string s ∷ ts) h = h
one_level a o p q (Token.number s ∷ ts) h = (tt, h.1)
one_level a o p q (Token.boolean b ∷ ts) h = (tt, h.1)
one_level a o p q (Token.null ∷ ts) h = (tt, h.1)
one_level a o p q (Token.bad ∷ ts) h = tt

Reads-value : (d : ℕ) → Reads TextsOf (value d)
unfolding value
Reads-value zero = one_level (λ ts. None) (λ ts. None) (λ ts h. tt) (λ ts h. tt)
Reads-value (suc d) =
    one_level (λ ts. items (value d) (length ts) ts) (λ ts. members (value d) (length ts) ts)
    (λ ts h. Reads-items (value d) (Reads-value d) (length ts) ts h)
    (λ ts h. Reads-members (value d) (Reads-value d) (length ts) ts h)

last_read : (o : Option (Json × List Token)) → Given (Read TextsOf) o
    → Given TextsOf (option_and_then (λ p. if_last p.0 p.1) o)
last_read None h = tt
last_read (Some (j, [])) h = h.0
last_read (Some (j, t ∷ r)) h = tt

-- the JSON that a whole list of tokens is
pub TextsOf-value : (d : ℕ) (ts : List Token) → TextsOfTokens ts
    → Given TextsOf (option_and_then (λ p. if_last p.0 p.1) (value d ts))
TextsOf-value d ts h = last_read (value d ts) (Reads-value d ts h)
