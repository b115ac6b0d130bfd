-- The faults of plans as faults of arrays.
use Rattle.js_plans.specs.declared.fault.PlanFault.{PlanFault}
use Rattle.js_plans.specs.declared.fault.PlanFault.TheVariants as P
use Rattle.js_arrays.specs.declared.fault.ArrayFault.{ArrayFault}
use Rattle.js_arrays.specs.declared.fault.ArrayFault.TheVariants as F

abbrev pub fault_of : PlanFault → ArrayFault
fault_of P.LimitPlans = F.LimitPlans
fault_of P.Memory = F.Memory
