use Rattle.std.proofs.Common.{◌≡◌, ◌+◌, ◌≤◌, length}
use Rattle.plain.specs.Turns.{Turned}
use Rattle.trimming.specs.Model.{keeping, kept_element, nothing}
use Rattle.cells.specs.Space.{space}
use Rattle.trimming.proofs.keep_elements.Given as goal

abbrev pub invariant-loop-t : goal.invariant-loop-t
invariant-loop-t l = record {
  turned : Turned (λ j. kept_element (space l.initial.m).n l.r.me l.r.flag l.r.aggressive (l.part.from + j))
      (keeping (space l.initial.m).lists (space l.initial.m).scratch (nothing l.part.from)) l.t (keeping (space l.m).lists (space l.m).scratch l.k);
  columns : (space l.m).n ≡ (space l.initial.m).n;
  size : length (space l.m).lists ≡ length (space l.initial.m).lists;
  names : (space l.m).names ≡ (space l.initial.m).names;
  low : l.part.from ≤ l.k.end;
  high : l.k.end ≤ l.part.from + l.t;
}
