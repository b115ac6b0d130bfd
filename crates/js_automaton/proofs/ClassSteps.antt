-- Classes are found one by one, the one with the first character first.
use Rattle.std.proofs.Common.{get_or, ◌≡◌, ℕ, ◌<◌, ◌⊎◌, inl, inr, Bool, true, false, ◌&&◌, ◌||◌, not, List, [], ◌∷◌, ◌++◌, length, refl, sym, ◌∙◌, ap, ap₂, subst, arith, length-append}
use Rattle.std.proofs.Math.Bool.{and-true, or-false}
use Rattle.std.specs.Cmp.{IsEquivalence}
use Rattle.std.specs.List.{list_any, IsDistinct}
use Rattle.std.proofs.lemmas.Bool.{and_parts, or_left, cases_Bool, cases_lt}
use Rattle.std.proofs.lemmas.List.Folds.{list_any-append}
use Rattle.std.proofs.lemmas.Map.Keys.{IsDistinct-push}
use Rattle.patterns.specs.CharSet.{has, is_scalar, comes_no_later}
use Rattle.word_states.specs.Classes.{are_alike, characters, firsts_among}
use Rattle.std.proofs.Math.Seq.{get_or-append_seam}
use Rattle.std.proofs.lemmas.List.{get_or_append_left}
use Rattle.list_laws.proofs.Lists.{in_left, in_right, from_append}
use Rattle.list_laws.specs.In.{IsIn}
use Rattle.word_laws.proofs.Mentions as M
use Rattle.word_laws.proofs.Classes.{alike_laws}
use Rattle.word_laws.proofs.Firsts.{Before, Rising, before_or_same, firsts_are, firsts_one}
use Rattle.js_automaton.specs.declared.classes.Class.{Class}
use Rattle.js_automaton.specs.Dividing.{IsClass}
use Rattle.js_automaton.specs.ClassView.{AreClasses}
use Rattle.list_laws.proofs.Booleans.{and_not-parts}

-- the first characters of the classes so far, and the characters that lie in none
pub record Dividing (sets : List (List (ℕ × ℕ))) (firsts : List ℕ) (left : List (ℕ × ℕ)) : Type 0 where
  pub scalar : (c : ℕ) → IsIn c firsts → is_scalar c ≡ true
  pub rising : Rising firsts
  pub distinct : IsDistinct (are_alike sets) firsts
  pub apart : (c d : ℕ) → IsIn c firsts → IsIn d firsts → are_alike sets c d ≡ true → c ≡ d
  pub later : (c d : ℕ) → IsIn c firsts → has left d ≡ true → Before c d
  pub left_is : (d : ℕ) → has left d ≡ (is_scalar d && not (list_any (are_alike sets d) firsts))
  pub first : (c : ℕ) → is_scalar c ≡ true → list_any (are_alike sets c) firsts ≡ true
      → (d : ℕ) × IsIn d firsts × (are_alike sets c d ≡ true) × ((d ≡ c) ⊎ Before d c)

pub dividing-none : (sets : List (List (ℕ × ℕ))) (left : List (ℕ × ℕ)) → ((d : ℕ) → has left d ≡ is_scalar d)
    → Dividing sets [] left
unfolding IsDistinct
dividing-none sets left h = record {
  scalar = λ c i. absurd i;
  rising = tt;
  distinct = tt;
  apart = λ c d i j e. absurd i;
  later = λ c d i e. absurd i;
  left_is = λ d. h d ∙ sym (and-true (is_scalar d));
  first = λ c e f. absurd (cc f);
}

rising-push : (cs : List ℕ) (x : ℕ) → Rising cs → ((c : ℕ) → IsIn c cs → Before c x) → Rising (cs ++ x ∷ [])
rising-push [] x r h = ((λ d i. absurd i), tt)
rising-push (c ∷ cs) x r h = (
  (λ d i. elim (from_append d cs (x ∷ []) i) [
    | inl j ↦ r.0 d j
    | inr j ↦ elim j [
      | inl e ↦ subst (λ z. Before c z) (sym e) (h c (inl refl))
      | inr k ↦ absurd k
    ]
  ]),
  rising-push cs x r.1 (λ d i. h d (inr i)),
)

left_less : (s l a b : Bool) → (s && ((s && not l) && (s && not (s && a)))) ≡ (s && not (l || (a || false)))
left_less true true a b = refl
left_less true false true b = refl
left_less true false false b = refl
left_less false l a b = refl

module _ (sets : List (List (ℕ × ℕ))) (firsts : List ℕ) (left : List (ℕ × ℕ)) (d : Dividing sets firsts left)
    (x : ℕ) (member : has left x ≡ true) (least : (c : ℕ) → has left c ≡ true → comes_no_later x c ≡ true)
    (set after : List (ℕ × ℕ)) (is : IsClass sets set x)
    (less : (c : ℕ) → has after c ≡ (is_scalar c && (has left c && (is_scalar c && not (has set c))))) where
  laws : IsEquivalence (are_alike sets)
  laws = alike_laws sets

  open_x : (is_scalar x ≡ true) × (list_any (are_alike sets x) firsts ≡ false)
  open_x = and_not-parts (is_scalar x) (list_any (are_alike sets x) firsts) (sym (d.left_is x) ∙ member)

  -- nothing so far is like it
  unlike : (c : ℕ) → IsIn c firsts → are_alike sets x c ≡ true → ⊥
  unlike c i e =
      let t : list_any (are_alike sets x) firsts ≡ true = M.has_in (are_alike sets) laws x c firsts i e in
      let f = open_x.1 in absurd (cc (t, f))

  after_is : (c : ℕ) → has after c ≡ (is_scalar c && not (list_any (are_alike sets c) (firsts ++ x ∷ [])))
  after_is c =
      less c
      ∙ ap₂ (λ l s. is_scalar c && (l && (is_scalar c && not s))) (d.left_is c) (is c)
      ∙ left_less (is_scalar c) (list_any (are_alike sets c) firsts) (are_alike sets x c) false
      ∙ ap (λ a. is_scalar c && not (list_any (are_alike sets c) firsts || (a || false))) (laws.symm x c)
      ∙ sym (ap (λ l. is_scalar c && not l) (list_any-append (are_alike sets c) firsts (x ∷ [])))

  stays : (c : ℕ) → has after c ≡ true → has left c ≡ true
  stays c e =
      let (s, r) = and_parts (is_scalar c) (has left c && (is_scalar c && not (has set c))) (sym (less c) ∙ e) in
      (and_parts (has left c) (is_scalar c && not (has set c)) r).0

  gone : has after x ≡ true → ⊥
  gone e =
      let p = and_not-parts (is_scalar x) (list_any (are_alike sets x) (firsts ++ x ∷ [])) (sym (after_is x) ∙ e) in
      let t = M.has_right (are_alike sets) laws x firsts (x ∷ []) (or_left (are_alike sets x x) false (laws.refl x)) in
      let f = p.1 in absurd (cc (t, f))

  ordered : (c : ℕ) → has left c ≡ true → (x ≡ c) ⊎ Before x c
  ordered c e = elim (before_or_same x c (least c e)) [
    | inl b ↦ inr b
    | inr q ↦ inl q
  ]

  pub dividing-next : Dividing sets (firsts ++ x ∷ []) after
  dividing-next = record {
    scalar = λ c i. elim (from_append c firsts (x ∷ []) i) [
      | inl j ↦ d.scalar c j
      | inr j ↦ elim j [
        | inl e ↦ ap is_scalar e ∙ open_x.0
        | inr k ↦ absurd k
      ]
    ];
    rising = rising-push firsts x d.rising (λ c i. d.later c x i member);
    distinct = IsDistinct-push laws firsts x d.distinct open_x.1;
    apart = λ c e i j s. elim (from_append c firsts (x ∷ []) i) [
      | inl k ↦ elim (from_append e firsts (x ∷ []) j) [
        | inl l ↦ d.apart c e k l s
        | inr l ↦ elim l [
          | inl q ↦ absurd (unlike c k (laws.symm x c ∙ ap (are_alike sets c) (sym q) ∙ s))
          | inr n ↦ absurd n
        ]
      ]
      | inr k ↦ elim k [
        | inl p ↦ elim (from_append e firsts (x ∷ []) j) [
          | inl l ↦ absurd (unlike e l (ap (λ z. are_alike sets z e) (sym p) ∙ s))
          | inr l ↦ elim l [
            | inl q ↦ p ∙ sym q
            | inr n ↦ absurd n
          ]
        ]
        | inr n ↦ absurd n
      ]
    ];
    later = λ c e i h. elim (from_append c firsts (x ∷ []) i) [
      | inl j ↦ d.later c e j (stays e h)
      | inr j ↦ elim j [
        | inl p ↦ elim (ordered e (stays e h)) [
          | inl q ↦ absurd (gone (ap (has after) q ∙ h))
          | inr b ↦ subst (λ z. Before z e) (sym p) b
        ]
        | inr n ↦ absurd n
      ]
    ];
    left_is = after_is;
    first = λ c s h. elim (cases_Bool (list_any (are_alike sets c) firsts)) [
      | inl t ↦
          let (e, i, a, b) = d.first c s t in (e, in_left e firsts (x ∷ []) i, a, b)
      | inr f ↦
          let l : has left c ≡ true = d.left_is c ∙ ap₂ (λ p q. p && not q) s f in
          (x, in_right x firsts (x ∷ []) (inl refl), like c f h, ordered c l)
    ];
  } where
    like : (c : ℕ) → list_any (are_alike sets c) firsts ≡ false → list_any (are_alike sets c) (firsts ++ x ∷ []) ≡ true
        → are_alike sets c x ≡ true
    like c f h =
        let g : (false || (are_alike sets c x || false)) ≡ true =
        sym (ap (λ b. b || (are_alike sets c x || false)) f)
        ∙ sym (list_any-append (are_alike sets c) firsts (x ∷ [])) ∙ h in
        sym (or-false (are_alike sets c x)) ∙ g

-- where no character is left, these are the classes
pub dividing-all : (sets : List (List (ℕ × ℕ))) (firsts : List ℕ) (left : List (ℕ × ℕ)) → Dividing sets firsts left
    → left ≡ [] → firsts ≡ firsts_among characters sets
dividing-all sets firsts left d e = firsts_one sets firsts (record {
  scalar = d.scalar;
  rising = d.rising;
  apart = d.apart;
  first = λ c s. d.first c s (covered c s);
}) where
  whole : (s l : Bool) → false ≡ (s && not l) → s ≡ true → l ≡ true
  whole s true f g = refl
  whole true false f g = absurd (cc f)
  whole false false f g = absurd (cc g)

  covered : (c : ℕ) → is_scalar c ≡ true → list_any (are_alike sets c) firsts ≡ true
  covered c s = whole (is_scalar c) (list_any (are_alike sets c) firsts) (sym (ap (λ l. has l c) e) ∙ d.left_is c) s

-- while characters are left, fewer classes were found than there are
pub dividing-count : (sets : List (List (ℕ × ℕ))) (firsts : List ℕ) (left : List (ℕ × ℕ)) (x : ℕ)
    → Dividing sets firsts left → has left x ≡ true → length firsts < length (firsts_among characters sets)
dividing-count sets firsts left x d member =
    let laws = alike_laws sets in
    let p = and_not-parts (is_scalar x) (list_any (are_alike sets x) firsts) (sym (d.left_is x) ∙ member) in
    let all = firsts_are sets in
    let more = M.fits (are_alike sets) laws (firsts ++ x ∷ []) (firsts_among characters sets)
    (IsDistinct-push laws firsts x d.distinct p.1)
    (λ c h. let (e, i, s) = M.in_has (are_alike sets) laws c (firsts ++ x ∷ []) h in
    let (f, j, t, b) = all.first e (known e i p.0) in
    M.has_in (are_alike sets) laws c f (firsts_among characters sets) j (laws.congr c e f s ∙ t)) in
    omega (arith, more, length-append firsts (x ∷ [])) where
      known : (e : ℕ) → IsIn e (firsts ++ x ∷ []) → is_scalar x ≡ true → is_scalar e ≡ true
      known e i s = elim (from_append e firsts (x ∷ []) i) [
        | inl j ↦ d.scalar e j
        | inr j ↦ elim j [
          | inl q ↦ ap is_scalar q ∙ s
          | inr n ↦ absurd n
        ]
      ]

-- ---- lists of classes
pub classes-none : (sets : List (List (ℕ × ℕ))) → AreClasses sets []
classes-none sets k c within at = absurd (omega (arith, within))

pub classes-push : (sets : List (List (ℕ × ℕ))) (cs : List Class) (c : Class) → AreClasses sets cs
    → IsClass sets c.set c.first → AreClasses sets (cs ++ c ∷ [])
classes-push sets cs c a i = λ k e within at. elim (cases_lt k (length cs)) [
  | inl l ↦ a k e l (at ∙ get_or_append_left cs (c ∷ []) e k l)
  | inr m ↦
      let q : k ≡ length cs = omega (arith, m, within, length-append cs (c ∷ [])) in
      let p : e ≡ c = at ∙ ap (λ n. get_or (cs ++ c ∷ []) n e) q ∙ get_or-append_seam cs c [] e in
      subst (λ z. IsClass sets z.set z.first) (sym p) i
]

pub less-is : (after left rest set : List (ℕ × ℕ)) → ((c : ℕ)
    → has after c ≡ (is_scalar c && (has left c && has rest c)))
    → ((c : ℕ) → has rest c ≡ (is_scalar c && not (has set c)))
    → (c : ℕ) → has after c ≡ (is_scalar c && (has left c && (is_scalar c && not (has set c))))
less-is after left rest set e f c = e c ∙ ap (λ r. is_scalar c && (has left c && r)) (f c)
