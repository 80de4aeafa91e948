-- `probe::put_statistics` meets its contract.
use Rattle.probe.proofs.Cells.{put_seven}
use Rattle.probe.proofs.put_statistics.Goals as goal

pub returns : goal.returns
returns c =
    put_seven _ _ _ _ _ _ _ _ _ c.put-7.ensures
    c.put-6.ensures
    c.put-5.ensures
    c.put-4.ensures
    c.put-3.ensures
    c.put-2.ensures
    c.put.ensures
