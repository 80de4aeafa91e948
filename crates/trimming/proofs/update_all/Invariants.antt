use Rattle.std.proofs.Common.{◌≡◌, ◌+◌, length}
use Rattle.plain.specs.Turns.{Turned}
use Rattle.trimming.specs.Model.{trimming, updated_at}
use Rattle.cells.specs.Space.{space}
use Rattle.trimming.proofs.update_all.Given as goal

abbrev pub invariant-loop-j : goal.invariant-loop-j
invariant-loop-j l = record {
  turned : Turned (λ x. updated_at (space l.initial.m).n l.r.me l.r.flag l.r.aggressive (l.part.from + x))
      (trimming (space l.initial.m).lists (space l.initial.m).scratch (record { weight = 0; made = l.made })) l.j
      (trimming (space l.m).lists (space l.m).scratch l.t);
  columns : (space l.m).n ≡ (space l.initial.m).n;
  size : length (space l.m).lists ≡ length (space l.initial.m).lists;
  names : (space l.m).names ≡ (space l.initial.m).names;
}
