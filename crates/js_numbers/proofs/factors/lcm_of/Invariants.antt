use Rattle.std.proofs.Common.{◌<◌, ◌^◌, take}
use Rattle.number_groups.specs.Multiples.{IsLcmOf}
use Rattle.js_numbers.proofs.factors.lcm_of.Given as goal

abbrev pub invariant-loop-m : goal.invariant-loop-m
invariant-loop-m l = record {
  so_far : IsLcmOf (take l.m-index l.multiples) l.common;
  small : l.common < 2 ^ 127;
}
