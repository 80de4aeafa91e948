-- What the memory and the numbers of a turn hold of a state of the elimination, between two pivots.
-- Assumes nothing.
use Rattle.std.specs.Prelude.{ℕ, ◌+◌, ◌*◌, ◌≤◌, ◌<◌, true, List, ◌≡◌, ℤ, length}
use Rattle.definition.specs.Outcome as Outcomes
use Rattle.definition.specs.Room.{Room}
use Rattle.definition.specs.State.{State, degree, is_element, kind, queue_of}
use Rattle.definition.specs.Tree.{size_of}
use Rattle.facts.specs.Invariant.{Live}
use Rattle.numbers.specs.Gains.{Within, after_elements}
use Rattle.cells.specs.Layout.{ELEN, HHEAD}
use Rattle.cells.specs.View.{rd}
use Rattle.chain.specs.Chained.{Chained}
use Rattle.drawn.specs.Drawn.{Rest}
use Rattle.drawn.specs.Flags.{Flagged}
use Rattle.drawn.specs.Log.{Logged}
use Rattle.opening.specs.Order.{Ordered}
use Rattle.elimination.specs.declared.Turn.{Turn}

-- n rows, of which nd are dense, in a list space of `size` cells; N is at least n
pub record Standing (N n nd size : ℕ) (l s : List ℤ) (t : Turn) (x : Outcomes.Statistics) (st : State) (rm : Room) : Type 0 where
  -- the graph, and its degree lists
  pub drawn : Rest n l s st.graph t.made t.base t.free
  pub long : length l ≡ size
  pub chained : Chained n s (queue_of st.queues)
  pub least : t.least ≡ st.least
  pub gone : t.gone ≡ st.gone
  -- marks: the flag is above all of them, and rises by 2·n a pivot at most
  pub flagged : Flagged n s st.graph t.flag
  pub two : 1 < t.flag
  pub low : t.flag ≤ 2 + 2 * n * st.gone
  -- no live element weighs more than `most`, which is not above the flag
  pub most : (e : ℕ) → Live st.graph e → degree st.graph e ≤ t.most
  pub modest : t.most ≤ n
  pub above : t.most ≤ t.flag
  -- no bucket has a row
  pub heads : (k : ℕ) → k < n → rd n HHEAD s k ≡ n
  -- the log of merges, and the elements made at the free end
  pub merges : List ℕ
  pub logged : Logged n s st.graph merges
  pub count : t.merges ≡ length merges
  pub ordered : Ordered n s st.graph t.made
  -- the sizes of the elements, for the tree
  pub sizes : (e : ℕ) → e < n → is_element (kind st.graph e) ≡ true → rd n ELEN s e ≡ size_of st.graph e
  -- the room
  pub free : rm.free ≡ t.free
  pub collections : rm.collections ≡ t.collections
  pub few : t.collections ≤ st.gone
  -- the statistics
  pub dense : nd ≤ st.gone
  pub statistics : x ≡ after_elements nd st.fronts
  pub within : Within N st.gone x
