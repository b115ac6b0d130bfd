-- What a list of servers says of the plan that it makes.
use Rattle.std.proofs.Common.{◌≡◌, ℕ, zero, suc, ◌+◌, ◌<◌, ◌≤◌, max, List, [], ◌∷◌, ◌++◌, map, drop, length, get_or, Bool, true, false, cond, refl, arith, ap, ap₂, sym, ◌∙◌, subst, drop-cons, append-nil, append_assoc}
use Rattle.std.proofs.lemmas.Bool.{and_parts, ltb-true}
use Rattle.std.proofs.lemmas.List.{map-append, length_push}
use Rattle.goals.specs.Signed.{Signed}
use Rattle.js_algebra.specs.View.{signed_view}
use Rattle.js_algebra.specs.declared.signed.Signed as C
use Rattle.js_plans.specs.declared.path.Served.{Served}
use Rattle.frames.specs.Plan.{Plan, Member, member, serve_head, serve_member, used, one_more}
use Rattle.js_plans.specs.declared.server.Server.{Server}
use Rattle.js_plans.specs.declared.server.Server.TheVariants as V
use Rattle.js_plans.specs.Serving.{serve, serve_all}
use Rattle.js_plans.specs.Servers.{with_cell, cells_of, members_after, used_after, most_used, serves_too, earlier, is_valid, are_valid, servers_of}
use Rattle.frame_laws.proofs.Lengths.{length-serve_head, length-serve_member}

-- a step of the loop over the path
one_earlier : (s w : Server) (ds : List Signed) (d : Signed) (found : List Signed) (m : ℕ) (ws : List Server)
    (b : Bool) → found ++ cond b (d ∷ earlier s ds (members_after m w) ws) (earlier s ds (members_after m w) ws)
    ≡ (found ++ cond b (d ∷ []) []) ++ earlier s ds (members_after m w) ws
one_earlier s w ds d found m ws true = sym (append_assoc found (d ∷ []) (earlier s ds (members_after m w) ws))
one_earlier s w ds d found m ws false =
    ap (λ xs. xs ++ earlier s ds (members_after m w) ws) (sym (append-nil found))

pub next_earlier : (s : Server) (path : List Served) (demands : List C.Signed) (i m : ℕ) (x : Served) (y : C.Signed)
    (b : Bool) (found found' : List C.Signed) (all : List Signed) → i < length path → i < length demands
    → x ≡ get_or path i x → y ≡ get_or demands i y → b ≡ serves_too s m x.server → found' ≡ found ++ cond b (y ∷ []) []
    → map signed_view found ++ earlier s (map signed_view (drop i demands)) m (servers_of (drop i path)) ≡ all
    → map signed_view found' ++ earlier s (map signed_view (drop (i + 1) demands)) (members_after m x.server)
    (servers_of (drop (i + 1) path)) ≡ all
next_earlier s path demands i m x y b found found' all l k at also is more e =
    let after : suc i ≡ i + 1 = omega arith in
    let ds = map signed_view (drop (i + 1) demands) in
    let ws = servers_of (drop (i + 1) path) in
    let cut : drop i path ≡ x ∷ drop (i + 1) path =
    drop-cons path i x l ∙ ap₂ (λ z n. z ∷ drop n path) (sym at) after in
    let also_cut : drop i demands ≡ y ∷ drop (i + 1) demands =
    drop-cons demands i y k ∙ ap₂ (λ z n. z ∷ drop n demands) (sym also) after in
    ap (λ zs. map signed_view zs ++ earlier s ds (members_after m x.server) ws) more
    ∙ ap (λ zs. zs ++ earlier s ds (members_after m x.server) ws)
    (map-append signed_view found (cond b (y ∷ []) []) ∙ ap (λ zs. map signed_view found ++ zs) (by_case b))
    ∙ sym (one_earlier s x.server ds (signed_view y) (map signed_view found) m ws b)
    ∙ ap (λ c. map signed_view found ++ cond c (signed_view y ∷ earlier s ds (members_after m x.server) ws)
    (earlier s ds (members_after m x.server) ws)) is
    ∙ ap₂ (λ zs es. map signed_view found ++ earlier s (map signed_view zs) m (servers_of es)) (sym also_cut) (sym cut)
    ∙ e where
      by_case : (b : Bool) → map signed_view (cond b (y ∷ []) []) ≡ cond b (signed_view y ∷ []) []
      by_case true = refl
      by_case false = refl

-- one more server is looked at, and its demand is found where it serves it; over servers alone
pub next_earlier-servers : (s : Server) (path : List Server) (demands : List C.Signed) (i m : ℕ) (x : Server)
    (y : C.Signed) (b : Bool) (found found' : List C.Signed) (all : List Signed) → i < length path → i < length demands
    → x ≡ get_or path i x → y ≡ get_or demands i y → b ≡ serves_too s m x → found' ≡ found ++ cond b (y ∷ []) []
    → map signed_view found ++ earlier s (map signed_view (drop i demands)) m (drop i path) ≡ all
    → map signed_view found' ++ earlier s (map signed_view (drop (i + 1) demands)) (members_after m x)
    (drop (i + 1) path) ≡ all
next_earlier-servers s path demands i m x y b found found' all l k at also is more e =
    let after : suc i ≡ i + 1 = omega arith in
    let ds = map signed_view (drop (i + 1) demands) in
    let ws = drop (i + 1) path in
    let cut : drop i path ≡ x ∷ drop (i + 1) path =
    drop-cons path i x l ∙ ap₂ (λ z n. z ∷ drop n path) (sym at) after in
    let also_cut : drop i demands ≡ y ∷ drop (i + 1) demands =
    drop-cons demands i y k ∙ ap₂ (λ z n. z ∷ drop n demands) (sym also) after in
    ap (λ zs. map signed_view zs ++ earlier s ds (members_after m x) ws) more
    ∙ ap (λ zs. zs ++ earlier s ds (members_after m x) ws)
    (map-append signed_view found (cond b (y ∷ []) []) ∙ ap (λ zs. map signed_view found ++ zs) (by_case b))
    ∙ sym (one_earlier s x ds (signed_view y) (map signed_view found) m ws b)
    ∙ ap (λ c. map signed_view found ++ cond c (signed_view y ∷ earlier s ds (members_after m x) ws)
    (earlier s ds (members_after m x) ws)) is
    ∙ ap₂ (λ zs es. map signed_view found ++ earlier s (map signed_view zs) m (es)) (sym also_cut) (sym cut)
    ∙ e where
      by_case : (b : Bool) → map signed_view (cond b (y ∷ []) []) ≡ cond b (signed_view y ∷ []) []
      by_case true = refl
      by_case false = refl

pub few_after : (m : ℕ) (s : Server) → members_after m s ≤ m + 1
few_after m (V.Head k) = omega arith
few_after m (V.Member k) = omega arith
few_after m (V.New c) = omega arith

pub get_within : {A : Type 0} (xs : List A) (i : ℕ) → i < length xs → (x : A) × (x ≡ get_or xs i x)
get_within [] i l = absurd (omega (arith, l))
get_within (x ∷ xs) zero l = (x, refl)
get_within (x ∷ xs) (suc i) l = get_within xs i (omega (arith, l))

cells-serve_member : (d : Signed) (ms : List Member) (k : ℕ)
    → map (λ m. m.cell) (serve_member d ms k) ≡ map (λ m. m.cell) ms
cells-serve_member d [] k = refl
cells-serve_member d (m ∷ ms) zero = refl
cells-serve_member d (m ∷ ms) (suc k) = ap (λ cs. m.cell ∷ cs) (cells-serve_member d ms k)

pub heads-serve : (d : Signed) (p : Plan) (s : Server) → length (serve d p s).heads ≡ length p.heads
heads-serve d p (V.Head k) = length-serve_head d p.heads k
heads-serve d p (V.Member k) = refl
heads-serve d p (V.New c) = refl

pub heads-serve_all : (ds : List Signed) (ws : List Server) (p : Plan)
    → length (serve_all ds ws p).heads ≡ length p.heads
heads-serve_all ds [] p = refl
heads-serve_all [] (w ∷ ws) p = refl
heads-serve_all (d ∷ ds) (w ∷ ws) p = heads-serve_all ds ws (serve d p w) ∙ heads-serve d p w

abbrev pub cells_in : Plan → List ℕ
cells_in p = map (λ m. m.cell) p.members

cells-serve : (d : Signed) (p : Plan) (s : Server) (cs : List ℕ)
    → cells_in (serve d p s) ++ cs ≡ cells_in p ++ with_cell s cs
cells-serve d p (V.Head k) cs = refl
cells-serve d p (V.Member k) cs = ap (λ bs. bs ++ cs) (cells-serve_member d p.members k)
cells-serve d p (V.New c) cs = push p.members where
  push : (ms : List Member) → map (λ m. m.cell) (ms ++ member c (d ∷ []) ∷ []) ++ cs ≡ map (λ m. m.cell) ms ++ c ∷ cs
  push [] = refl
  push (m ∷ ms) = ap (λ bs. m.cell ∷ bs) (push ms)

-- the cells of the members
pub cells-serve_all : (ds : List Signed) (ws : List Server) (p : Plan) → length ws ≤ length ds
    → cells_in (serve_all ds ws p) ≡ cells_in p ++ cells_of ws
cells-serve_all ds [] p l = sym (append-nil (cells_in p))
cells-serve_all [] (w ∷ ws) p l = absurd (omega (arith, l))
cells-serve_all (d ∷ ds) (w ∷ ws) p l =
    cells-serve_all ds ws (serve d p w) (omega (arith, l)) ∙ cells-serve d p w (cells_of ws)

-- how many members there are
pub members-serve : (d : Signed) (p : Plan) (s : Server)
    → length (serve d p s).members ≡ members_after (length p.members) s
members-serve d p (V.Head k) = refl
members-serve d p (V.Member k) = length-serve_member d p.members k
members-serve d p (V.New c) = length_push p.members (member c (d ∷ []))

-- one more than the last first place that serves
pub used-serve_head : (d : Signed) (xs : List (List Signed)) (k : ℕ) → k < length xs
    → used (serve_head d xs k) ≡ max (used xs) (k + 1)
used-serve_head d [] k l = absurd (omega (arith, l))
used-serve_head d (x ∷ xs) zero l = first x (used xs) where
  first : (y : List Signed) (n : ℕ) → one_more (d ∷ y) n ≡ max (one_more y n) 1
  first [] zero = omega arith
  first [] (suc n) = omega arith
  first (z ∷ y) n = omega arith
used-serve_head d (x ∷ xs) (suc k) l =
    later x (used (serve_head d xs k)) (used xs) (used-serve_head d xs k (omega (arith, l))) where
      later : (y : List Signed) (m n : ℕ) → m ≡ max n (k + 1) → one_more y m ≡ max (one_more y n) (suc k + 1)
      later [] zero n e = absurd (omega (arith, e))
      later [] (suc m) zero e = omega (arith, e)
      later [] (suc m) (suc n) e = omega (arith, e)
      later (z ∷ y) m n e = omega (arith, e)

used-serve : (d : Signed) (p : Plan) (s : Server) (m : ℕ) → is_valid (length p.heads) m s ≡ true
    → used (serve d p s).heads ≡ used_after (used p.heads) s
used-serve d p (V.Head k) m v = used-serve_head d p.heads k (ltb-true k (length p.heads) v)
used-serve d p (V.Member k) m v = refl
used-serve d p (V.New c) m v = refl

pub used-serve_all : (ds : List Signed) (ws : List Server) (p : Plan) → length ws ≤ length ds
    → are_valid (length p.heads) (length p.members) ws ≡ true
    → used (serve_all ds ws p).heads ≡ most_used (used p.heads) ws
used-serve_all ds [] p l v = refl
used-serve_all [] (w ∷ ws) p l v = absurd (omega (arith, l))
used-serve_all (d ∷ ds) (w ∷ ws) p l v =
    let (a, b) = and_parts (is_valid (length p.heads) (length p.members) w) _ v in
    used-serve_all ds ws (serve d p w) (omega (arith, l))
    (subst (λ h. are_valid h (length (serve d p w).members) ws ≡ true) (sym (heads-serve d p w))
    (subst (λ m. are_valid (length p.heads) m ws ≡ true) (sym (members-serve d p w)) b))
    ∙ ap (λ n. most_used n ws) (used-serve d p w (length p.members) a)
