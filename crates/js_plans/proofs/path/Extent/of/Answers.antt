-- The last server came with the extent.
use Rattle.std.proofs.Common.{arith}
use Rattle.std.proofs.lemmas.List.{length-map}
use Rattle.js_plans.specs.Servers.{servers_of}
use Rattle.js_plans.proofs.Extents.{last-extent}
use Rattle.js_plans.proofs.Namings.{cells-few}
use Rattle.js_plans.proofs.path.Extent.of.Goals as goal

pub returns-in-Some-clause-used : goal.returns-in-Some-clause-used
returns-in-Some-clause-used c =
    (last-extent c.args.path.now c.in-Some.field-0-1.now c.in-Some.last.now c.in-Some.ensures.cases.0 c.requires).used

pub returns-in-Some-clause-members : goal.returns-in-Some-clause-members
returns-in-Some-clause-members c =
    (last-extent c.args.path.now c.in-Some.field-0-1.now c.in-Some.last.now c.in-Some.ensures.cases.0
    c.requires).members

pub returns-in-Some-clause-few : goal.returns-in-Some-clause-few
returns-in-Some-clause-few c = omega (
  arith,
  (last-extent c.args.path.now c.in-Some.field-0-1.now c.in-Some.last.now c.in-Some.ensures.cases.0 c.requires).members,
  cells-few (servers_of c.args.path.now),
  length-map c.args.path.now (λ e. e.server),
)

pub returns-in-Some-clause-bound : goal.returns-in-Some-clause-bound
returns-in-Some-clause-bound c =
    (last-extent c.args.path.now c.in-Some.field-0-1.now c.in-Some.last.now c.in-Some.ensures.cases.0 c.requires).bound
