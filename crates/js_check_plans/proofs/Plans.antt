-- The plan of a list of servers: its places, its members and its size, and what one more server makes of it.
use Rattle.std.proofs.Common.{◌≡◌, ℕ, List, [], ◌∷◌, ◌++◌, take, drop, true, arith, sym, subst}
use Rattle.std.proofs.lemmas.List.{length-append, length-take, take-append-drop}
use Rattle.frames.specs.Frame.{Frame}
use Rattle.js_plans.specs.declared.server.Server.{Server}
use Rattle.js_plans.specs.Servers.{is_valid, are_valid}
use Rattle.js_check_plans.specs.Reach.{IsPath}
use Rattle.js_check_plans.specs.OpenDuties.{Fits}
use Rattle.js_plans.proofs.Plans.{valid-before, valid-push}

module _ (frame : Frame) where
  pub path-take : (n : ℕ) (ws : List Server) → IsPath frame ws → IsPath frame (take n ws)
  path-take n ws path = record {
    few = omega (arith, path.few, length-take n ws);
    valid =
        valid-before frame.heads 0 (take n ws) (drop n ws)
        (subst (λ us. are_valid frame.heads 0 us ≡ true) (sym (take-append-drop n ws)) path.valid);
  }

  -- a path with one more server that fits there is a path
  pub path-push : (ws : List Server) (s : Server) → IsPath frame ws → Fits frame ws s → IsPath frame (ws ++ s ∷ [])
  path-push ws s path (l, v) = record {
    few = omega (arith, l, length-append ws (s ∷ []));
    valid =
        valid-push frame.heads 0 ws s path.valid (subst (λ m. is_valid frame.heads m s ≡ true) (omega arith) v);
  }
