-- The goals of what is placed, as the servers of a path come one after another.
use Rattle.std.specs.Prelude.{List, [], ◌∷◌, ◌++◌, slice_set}
use Rattle.goals.specs.Signed.{Signed}
use Rattle.js_plans.specs.declared.server.Server.{Server}
use Rattle.js_plans.specs.declared.server.Server.TheVariants as V
use Rattle.js_plans.specs.declared.path.Served.{Served}

abbrev pub put_head : Server → List Signed → List (List Signed) → List (List Signed)
put_head (V.Head k) g hs = slice_set hs k g
put_head (V.Member k) g hs = hs
put_head (V.New c) g hs = hs

abbrev pub put_member : Server → List Signed → List (List Signed) → List (List Signed)
put_member (V.Head k) g ms = ms
put_member (V.Member k) g ms = slice_set ms k g
put_member (V.New c) g ms = ms ++ g ∷ []

-- the goals of the first places after a path
abbrev pub put_heads : List Served → List (List Signed) → List (List Signed)
put_heads [] hs = hs
put_heads (e ∷ es) hs = put_heads es (put_head e.server e.goal hs)

-- the goals of the members after a path
abbrev pub put_members : List Served → List (List Signed) → List (List Signed)
put_members [] ms = ms
put_members (e ∷ es) ms = put_members es (put_member e.server e.goal ms)
