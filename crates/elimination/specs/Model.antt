-- What each function does to the memory: the code's own steps, as functions. The laws of `proofs/` say what these mean for the graph.
-- Assumes nothing.
use Rattle.std.specs.Prelude.{ℕ, ◌-◌, max, Bool, cond, List, ltb, ℤ}
use Rattle.definition.specs.Outcome as Outcomes
use Rattle.numbers.specs.Gains.{added_element, counted}
use Rattle.cells.specs.Layout.{DEGREE, NV}
use Rattle.cells.specs.View.{plus, rd}
use Rattle.packed.specs.declared.Made.{Made}
use Rattle.packed.specs.Gather.{kept_part}
use Rattle.sizing.specs.Model.{sized_all, weighed_rows}
use Rattle.trimming.specs.Model.{Trimming, updated_all}
use Rattle.merging.specs.Model.{merged_rows, merging}
use Rattle.placing.specs.declared.Restored.{Restored}
use Rattle.placing.specs.Model.{finished, placed_all, spot}
use Rattle.opening.specs.Begin.{pivoted}
use Rattle.elimination.specs.declared.Met.{Met}
use Rattle.elimination.specs.declared.Reduced.{Reduced}
use Rattle.elimination.specs.declared.Turn.{Turn}

-- ---- steps 3 to 5

-- the list space, the scratch, and the numbers beside them
pub record Reduction : Type 0 where
  pub lists : List ℤ
  pub mem : List ℤ
  pub numbers : Reduced

abbrev pub reduction : List ℤ → List ℤ → Reduced → Reduction
reduction l s r = record { lists = l; mem = s; numbers = r }

abbrev pub trimmed_rows : ℕ → ℕ → ℕ → ℕ → Bool → ℕ → ℕ → List ℤ → List ℤ → Trimming
trimmed_rows n me from k aggressive flag merges l s = updated_all n me flag aggressive from k merges l (sized_all n l flag from k s)

unfoldable pub reduced : ℕ → ℕ → ℕ → ℕ → Bool → ℕ → ℕ → List ℤ → List ℤ → Reduction
reduced n me from k aggressive flag merges l s =
    let r = trimmed_rows n me from k aggressive flag merges l s in
    reduction r.lists r.mem (record { size = weighed_rows n l s from k - r.merged.weight; merges = r.merged.made })

pub record Meeting : Type 0 where
  pub lists : List ℤ
  pub mem : List ℤ
  pub numbers : Met

abbrev pub meeting : List ℤ → List ℤ → Met → Meeting
meeting l s r = record { lists = l; mem = s; numbers = r }

-- the rows are compared, from the flag that is above every counter
unfoldable pub compared : ℕ → ℕ → ℕ → Turn → Reduction → Meeting
compared n from k t r =
    let most = max t.most r.numbers.size in
    let q = merged_rows r.lists n from k (merging r.mem (record { flag = plus t.flag most; logged = r.numbers.merges })) in
    meeting r.lists q.mem (record { size = r.numbers.size; most = most; flag = q.tally.flag; merges = q.tally.logged })

unfoldable pub met : ℕ → ℕ → ℕ → ℕ → Bool → Turn → List ℤ → List ℤ → Meeting
met n me from k aggressive t l s = compared n from k t (reduced n me from k aggressive t.flag t.merges l s)

-- ---- step 6

pub record Stage : Type 0 where
  pub lists : List ℤ
  pub mem : List ℤ
  pub turn : Turn

abbrev pub stage : List ℤ → List ℤ → Turn → Stage
stage l s t = record { lists = l; mem = s; turn = t }

unfoldable pub free_end : Made → ℕ → ℕ → ℕ
free_end m made count = cond (ltb made m.made) (plus m.start count) m.free

pub record Placement : Type 0 where
  pub lists : List ℤ
  pub mem : List ℤ
  pub numbers : Restored

abbrev pub placement : List ℤ → List ℤ → Restored → Placement
placement l s r = record { lists = l; mem = s; numbers = r }

unfoldable pub placed : ℕ → ℕ → ℕ → Made → ℕ → ℕ → List ℤ → List ℤ → Placement
placed n me d m size left l s =
    let o = placed_all n size left l m.start m.count (spot s d) in
    let c = kept_part n NV s m.start m.count l in
    placement c.lists (finished n o.mem me size c.count) (record { count = c.count; least = o.least })

-- one is gone in any case
unfoldable pub left_of : ℕ → ℕ → ℕ
left_of n gone = n - max gone 1

unfoldable pub next_turn : ℕ → ℕ → ℕ → ℕ → Made → Met → Turn
next_turn gone least free collections m x = record {
  gone = gone;
  least = least;
  flag = x.flag;
  most = x.most;
  merges = x.merges;
  base = m.base;
  free = free;
  made = m.made;
  collections = collections;
}

unfoldable pub settled : ℕ → ℕ → ℕ → Made → Met → Turn → ℕ → List ℤ → List ℤ → Stage
settled n me d m x t gone l s =
    let r = placed n me d m x.size (left_of n gone) l s in
    stage r.lists r.mem
    (next_turn gone r.numbers.least (free_end m t.made r.numbers.count) (plus t.collections m.collected) m x)

unfoldable pub ended : ℕ → ℕ → ℕ → Made → Met → Turn → List ℤ → List ℤ → Stage
ended n me d m x t l s = settled n me d m x t (plus t.gone (rd n NV s me)) l s

-- ---- one pivot

unfoldable pub pivot_step : ℕ → ℕ → ℕ → Bool → Turn → List ℤ → List ℤ → Stage
pivot_step n me d aggressive t l s =
    let o = pivoted n me t.base t.free t.made l s in
    let r = met n me o.made.start o.made.count aggressive t o.lists o.mem in
    ended n me d o.made r.numbers t r.lists r.mem

unfoldable pub element_counted : ℕ → ℕ → ℕ → List ℤ → Outcomes.Statistics → Outcomes.Statistics
element_counted n me dense s x = added_element (rd n NV s me) (plus (rd n DEGREE s me) dense) x

-- ---- the loop

unfoldable pub first_turn : ℕ → ℕ → Turn
first_turn gone free = record { gone = gone; least = 0; flag = 2; most = 0; merges = 0; base = free; free = free; made = 0; collections = 0 }

unfoldable pub closed : ℕ → ℕ → Outcomes.Statistics → Outcomes.Statistics
closed dense collections x = counted collections (added_element dense 0 x)
