-- The lists that containers of documents and of JSON values stand for.
use Rattle.std.proofs.Common.{◌≡◌, ℕ, ◌<◌, arith, List, [], ◌∷◌, map, length, get_or, refl, ap, sym, ◌∙◌}
use Rattle.std.proofs.Math.ListN.{get_or-map, length-map}
use Rattle.std.proofs.lemmas.List as ListsAt
use Rattle.documents.specs.Document as D
use Rattle.documents.specs.Json as J

-- a list comes back from the items made of it
pub elements-items_of : (ds : List D.Document) → D.elements (D.items_of ds) ≡ ds
elements-items_of [] = refl
elements-items_of (d ∷ ds) = ap (λ xs. d ∷ xs) (elements-items_of ds)

pub entries-members_of : (ms : List (List ℕ × D.Document)) → D.entries (D.members_of ms) ≡ ms
entries-members_of [] = refl
entries-members_of (m ∷ ms) = ap (λ xs. m ∷ xs) (entries-members_of ms)

pub json_elements-items_of : (ds : List J.Json) → J.elements (J.items_of ds) ≡ ds
json_elements-items_of [] = refl
json_elements-items_of (d ∷ ds) = ap (λ xs. d ∷ xs) (json_elements-items_of ds)

pub json_entries-members_of : (ms : List (List ℕ × J.Json)) → J.entries (J.members_of ms) ≡ ms
json_entries-members_of [] = refl
json_entries-members_of (m ∷ ms) = ap (λ xs. m ∷ xs) (json_entries-members_of ms)

-- of a container whose view is made of the list
pub elements-of : (ds : List D.Document) (l : D.Items) → D.items_of ds ≡ l → D.elements l ≡ ds
elements-of ds l e = ap D.elements (sym e) ∙ elements-items_of ds

pub entries-of : (ms : List (List ℕ × D.Document)) (l : D.Members) → D.members_of ms ≡ l → D.entries l ≡ ms
entries-of ms l e = ap D.entries (sym e) ∙ entries-members_of ms

pub json_elements-of : (ds : List J.Json) (l : J.Items) → J.items_of ds ≡ l → J.elements l ≡ ds
json_elements-of ds l e = ap J.elements (sym e) ∙ json_elements-items_of ds

pub json_entries-of : (ms : List (List ℕ × J.Json)) (l : J.Members) → J.members_of ms ≡ l → J.entries l ≡ ms
json_entries-of ms l e = ap J.entries (sym e) ∙ json_entries-members_of ms

-- the element at a place of a mapped list
pub get_or-mapped : {A B : Type 0} (f : A → B) (xs : List A) (ys : List B) (i : ℕ) (x : A) → ys ≡ map f xs
    → x ≡ get_or xs i x → f x ≡ get_or ys i (f x)
get_or-mapped f xs ys i x e h = ap f h ∙ sym (get_or-map f xs i x) ∙ ap (λ l. get_or l i (f x)) (sym e)

pub length-mapped : {A B : Type 0} (f : A → B) (xs : List A) (ys : List B) → ys ≡ map f xs → length ys ≡ length xs
length-mapped f xs ys e = ap length e ∙ length-map xs f

-- mapped lists that are equal are equal at each place
pub get_or-same : {A B : Type 0} (f : A → B) (xs ys : List A) (i : ℕ) (x y : A) → i < length xs → length xs ≡ length ys
    → x ≡ get_or xs i x → y ≡ get_or ys i y → map f xs ≡ map f ys → f x ≡ f y
get_or-same f xs ys i x y l n e h same =
    ap f e ∙ sym (get_or-map f xs i x) ∙ ap (λ zs. get_or zs i (f x)) same
    ∙ ListsAt.get_or-map f ys i y (f x) (omega (arith, n)) ∙ ap f (sym h)
