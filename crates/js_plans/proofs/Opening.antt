-- The options of a demand are its choices, so the tree of a plan goes on with one more that serves.
use Rattle.std.proofs.Common.{◌≡◌, ◌<◌, List, [], ◌∷◌, ◌++◌, flat_map, drop, length, get_or, refl, arith, ap, ap₂, ◌∙◌}
use Rattle.std.proofs.lemmas.List.{length-map}
use Rattle.std.proofs.lemmas.List.Folds.{flat_map-map}
use Rattle.positions.specs.Position.{Position}
use Rattle.goals.specs.Signed.{Signed, Plus}
use Rattle.frames.specs.Frame.{Frame}
use Rattle.frames.specs.Plan.{Plan, Split, Complete, steps, unless_dropped}
use Rattle.js_plans.specs.declared.server.Server.{Server}
use Rattle.js_plans.specs.Serving.{serve, choices, serve_all}
use Rattle.js_plans.proofs.Options.{options-choices}

module _ (T : List Position) (frame : Frame) where
  -- a demand that is left is split, where the plan isn't dropped
  pub steps-split : (ds : List Signed) (ss : List Server) (p : Plan) → length ss < length ds
      → let d = get_or ds (length ss) (Plus 0) in let q = serve_all ds ss p in
      steps T frame (drop (length ss) ds) q ≡ unless_dropped T frame q (Split (length (choices frame d q))
      ∷ flat_map (λ s. steps T frame (drop (length (ss ++ s ∷ [])) ds) (serve_all ds (ss ++ s ∷ []) p))
      (choices frame d q))
  steps-split [] ss p l = absurd (omega (arith, l))
  steps-split (d ∷ ds) [] p l =
      ap₂ (λ n ss. unless_dropped T frame p (Split n ∷ ss))
      (ap length (options-choices frame d p) ∙ length-map (choices frame d p) (serve d p))
      (ap (flat_map (steps T frame ds)) (options-choices frame d p)
      ∙ flat_map-map (steps T frame ds) (serve d p) (choices frame d p))
  steps-split (d ∷ ds) (s ∷ ss) p l = steps-split ds ss (serve d p s) (omega (arith, l))

  -- where none is left, it is complete
  pub steps-complete : (ds : List Signed) (ss : List Server) (p : Plan) → length ss ≡ length ds
      → let q = serve_all ds ss p in
      steps T frame (drop (length ss) ds) q ≡ unless_dropped T frame q (Complete q ∷ [])
  steps-complete [] [] p e = refl
  steps-complete [] (s ∷ ss) p e = absurd (omega (arith, e))
  steps-complete (d ∷ ds) [] p e = absurd (omega (arith, e))
  steps-complete (d ∷ ds) (s ∷ ss) p e = steps-complete ds ss (serve d p s) (omega (arith, e))
