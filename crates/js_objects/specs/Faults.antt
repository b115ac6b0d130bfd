-- The faults of automata and of plans as faults of objects.
use Rattle.js_automaton.specs.declared.fault.AutoFault.{AutoFault}
use Rattle.js_automaton.specs.declared.fault.AutoFault.TheVariants as A
use Rattle.js_plans.specs.declared.fault.PlanFault.{PlanFault}
use Rattle.js_plans.specs.declared.fault.PlanFault.TheVariants as P
use Rattle.js_objects.specs.declared.fault.ObjectFault.{ObjectFault}
use Rattle.js_objects.specs.declared.fault.ObjectFault.TheVariants as F

abbrev pub name_fault : AutoFault → ObjectFault
name_fault A.LimitPositions = F.LimitPositions
name_fault A.LimitClasses = F.LimitClasses
name_fault A.LimitStates = F.LimitStates
name_fault A.Memory = F.Memory

abbrev pub plan_fault : PlanFault → ObjectFault
plan_fault P.LimitPlans = F.LimitPlans
plan_fault P.Memory = F.Memory
