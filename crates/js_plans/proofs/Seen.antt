-- What is at the places of a plan and serves which demands, read off the servers; and the goals of all places.
use Rattle.std.proofs.Common.{◌≡◌, ℕ, zero, suc, ◌<◌, ◌≤◌, List, [], ◌∷◌, ◌++◌, reverse, length, get_or, Bool, true, false, cond, nat_eq, refl, arith, ap, sym, ◌∙◌, subst, append_assoc}
use Rattle.std.proofs.lemmas.Bool.{and_parts, ltb-true, eqb-true, eqb-false}
use Rattle.std.proofs.lemmas.List.{reverse-append}
use Rattle.goals.specs.Signed.{Signed}
use Rattle.frames.specs.Plan.{Plan, Member, member, serve_head, serve_member}
use Rattle.js_plans.specs.declared.server.Server.{Server}
use Rattle.js_plans.specs.declared.server.Server.TheVariants as V
use Rattle.js_plans.specs.Serving.{serve, serve_all}
use Rattle.js_plans.specs.Servers.{members_after, serves_too, earlier, is_valid, are_valid}
use Rattle.js_plans.proofs.Grown.{heads-serve, members-serve}

-- the member of that number
abbrev pub member_at : List Member → ℕ → Member
member_at ms k = get_or ms k (member 0 [])

-- what a server serves in a plan
abbrev pub served_by : Server → Plan → List Signed
served_by (V.Head k) p = get_or p.heads k []
served_by (V.Member k) p = (member_at p.members k).served
served_by (V.New c) p = []

by_eq : {A : Type 0} (i k : ℕ) (a b x : A) → (i ≡ k → x ≡ a) → ((i ≡ k → ⊥) → x ≡ b) → x ≡ cond (nat_eq i k) a b
by_eq i k a b x same other = go (nat_eq i k) (eqb-true i k) (eqb-false i k) where
  go : (t : Bool) → (t ≡ true → i ≡ k) → (t ≡ false → i ≡ k → ⊥) → x ≡ cond t a b
  go true y n = same (y refl)
  go false y n = other (n refl)

head-same : (d : Signed) (xs : List (List Signed)) (i k : ℕ) → k < length xs → i ≡ k
    → get_or (serve_head d xs i) k [] ≡ d ∷ get_or xs k []
head-same d [] i k l e = absurd (omega (arith, l))
head-same d (x ∷ xs) zero zero l e = refl
head-same d (x ∷ xs) zero (suc k) l e = absurd (omega (arith, e))
head-same d (x ∷ xs) (suc i) zero l e = absurd (omega (arith, e))
head-same d (x ∷ xs) (suc i) (suc k) l e = head-same d xs i k (omega (arith, l)) (omega (arith, e))

head-other : (d : Signed) (xs : List (List Signed)) (i k : ℕ) → (i ≡ k → ⊥)
    → get_or (serve_head d xs i) k [] ≡ get_or xs k []
head-other d [] i k n = refl
head-other d (x ∷ xs) zero zero n = absurd (n refl)
head-other d (x ∷ xs) zero (suc k) n = refl
head-other d (x ∷ xs) (suc i) zero n = refl
head-other d (x ∷ xs) (suc i) (suc k) n = head-other d xs i k (λ e. n (ap suc e))

member-same : (d : Signed) (ms : List Member) (i k : ℕ) → i < length ms → i ≡ k
    → (member_at (serve_member d ms i) k).served ≡ d ∷ (member_at ms k).served
member-same d [] i k l e = absurd (omega (arith, l))
member-same d (m ∷ ms) zero zero l e = refl
member-same d (m ∷ ms) zero (suc k) l e = absurd (omega (arith, e))
member-same d (m ∷ ms) (suc i) zero l e = absurd (omega (arith, e))
member-same d (m ∷ ms) (suc i) (suc k) l e = member-same d ms i k (omega (arith, l)) (omega (arith, e))

member-other : (d : Signed) (ms : List Member) (i k : ℕ) → (i ≡ k → ⊥)
    → (member_at (serve_member d ms i) k).served ≡ (member_at ms k).served
member-other d [] i k n = refl
member-other d (m ∷ ms) zero zero n = absurd (n refl)
member-other d (m ∷ ms) zero (suc k) n = refl
member-other d (m ∷ ms) (suc i) zero n = refl
member-other d (m ∷ ms) (suc i) (suc k) n = member-other d ms i k (λ e. n (ap suc e))

push-same : (d : Signed) (ms : List Member) (c k : ℕ) → length ms ≡ k
    → (member_at (ms ++ member c (d ∷ []) ∷ []) k).served ≡ d ∷ (member_at ms k).served
push-same d [] c zero e = refl
push-same d [] c (suc k) e = absurd (omega (arith, e))
push-same d (m ∷ ms) c zero e = absurd (omega (arith, e))
push-same d (m ∷ ms) c (suc k) e = push-same d ms c k (omega (arith, e))

push-other : (d : Signed) (ms : List Member) (c k : ℕ) → (length ms ≡ k → ⊥)
    → (member_at (ms ++ member c (d ∷ []) ∷ []) k).served ≡ (member_at ms k).served
push-other d [] c zero n = absurd (n refl)
push-other d [] c (suc k) n = refl
push-other d (m ∷ ms) c zero n = refl
push-other d (m ∷ ms) c (suc k) n = push-other d ms c k (λ e. n (omega (arith, e)))

-- one more demand is served
served-serve : (d : Signed) (p : Plan) (s w : Server) (h : ℕ) → h ≡ length p.heads
    → is_valid h (length p.members) w ≡ true → (n : ℕ) → is_valid h n s ≡ true
    → served_by s (serve d p w) ≡ cond (serves_too s (length p.members) w) (d ∷ served_by s p) (served_by s p)
served-serve d p (V.Head k) (V.Head i) h e v n u =
    by_eq i k _ _ _ (head-same d p.heads i k (subst (λ m. k < m) e (ltb-true k h u))) (head-other d p.heads i k)
served-serve d p (V.Head k) (V.Member i) h e v n u = refl
served-serve d p (V.Head k) (V.New c) h e v n u = refl
served-serve d p (V.Member k) (V.Head i) h e v n u = refl
served-serve d p (V.Member k) (V.Member i) h e v n u =
    by_eq i k _ _ _ (member-same d p.members i k (ltb-true i (length p.members) v)) (member-other d p.members i k)
served-serve d p (V.Member k) (V.New c) h e v n u =
    by_eq (length p.members) k _ _ _ (push-same d p.members c k) (push-other d p.members c k)
served-serve d p (V.New c) w h e v n u = refl

reverse-cons : {A : Type 0} (x : A) (xs : List A) → reverse (x ∷ xs) ≡ reverse xs ++ x ∷ []
reverse-cons x xs = reverse-append (x ∷ []) xs

-- what a server serves after others
pub served-serve_all : (s : Server) (ds : List Signed) (ws : List Server) (p : Plan) (h m n : ℕ)
    → h ≡ length p.heads → m ≡ length p.members → length ws ≤ length ds → are_valid h m ws ≡ true
    → is_valid h n s ≡ true → served_by s (serve_all ds ws p) ≡ reverse (earlier s ds m ws) ++ served_by s p
served-serve_all s ds [] p h m n e f l v u = refl
served-serve_all s [] (w ∷ ws) p h m n e f l v u = absurd (omega (arith, l))
served-serve_all s (d ∷ ds) (w ∷ ws) p h m n e f l v u =
    let (a, b) = and_parts (is_valid h m w) (are_valid h (members_after m w) ws) v in
    let old : is_valid h (length p.members) w ≡ true = subst (λ k. is_valid h k w ≡ true) f a in
    served-serve_all s ds ws (serve d p w) h (members_after m w) n (e ∙ sym (heads-serve d p w))
    (ap (λ k. members_after k w) f ∙ sym (members-serve d p w)) (omega (arith, l)) b u
    ∙ ap (λ xs. reverse (earlier s ds (members_after m w) ws) ++ xs) (served-serve d p s w h e old n u)
    ∙ ap (λ k. reverse (earlier s ds (members_after m w) ws)
    ++ cond (serves_too s k w) (d ∷ served_by s p) (served_by s p)) (sym f)
    ∙ go (serves_too s m w) where
      go : (b : Bool) → reverse (earlier s ds (members_after m w) ws) ++ cond b (d ∷ served_by s p) (served_by s p)
          ≡ reverse (cond b (d ∷ earlier s ds (members_after m w) ws) (earlier s ds (members_after m w) ws))
          ++ served_by s p
      go false = refl
      go true =
          sym (ap (λ xs. xs ++ served_by s p) (reverse-cons d (earlier s ds (members_after m w) ws))
          ∙ append_assoc (reverse (earlier s ds (members_after m w) ws)) (d ∷ []) (served_by s p))
