-- "The room is the whole lists slice, with A+A' packed from its start. A collection happens as in `amd_2.rs`: exactly when a collected variable is to be
-- stored in a new element outside its old place and the next free place is the slice's length."
-- A row's list holds as many places as it has entries. The lists of A + A' are packed from the start of the room, and a new element whose pivot has elements
-- is stored behind all of them. Nothing is kept here but the next free place and the count: the sizes are the lengths of the state's lists.
-- Assumes nothing.
use Rattle.std.specs.Prelude.{ℕ, suc, ◌+◌, ◌-◌, Bool, ◌&&◌, cond, eqb, length}
use mathlib.Core.List.{List, [], ◌∷◌, ◌++◌, foldl}
use Rattle.plain.specs.Lists.{up_to, total, is_empty}
use Rattle.definition.specs.State.{Graph, State, row_count, elements_of, variables_of, has_weight, live, started}
use Rattle.definition.specs.Pivot.{Found, nobody, found, wanted}
use Rattle.definition.specs.Elimination.{beside}

-- the places that a row's list holds: none of a merged, a dense or an absorbed row
unfoldable pub places : Graph → ℕ → ℕ
places g v = cond (has_weight g v && live g v) (length (elements_of g v) + length (variables_of g v)) 0

-- all places that lists hold
unfoldable pub all_places : Graph → ℕ
all_places g = total (places g) (up_to (row_count g))

-- an entry that the pivot's step reads, and how many places have been read with it: they are free if a collection comes now
pub record Read : Type 0 where
  pub entry : ℕ
  pub sofar : ℕ

-- the entries of one list, where c places have been read before it
unfoldable pub read_list : ℕ → List ℕ → List Read
read_list c [] = []
read_list c (v ∷ vs) = record { entry = v; sofar = suc c } ∷ read_list (suc c) vs

-- an element's number in the pivot's list is read first, and then the element's own list
unfoldable pub read_elements : Graph → ℕ → List ℕ → List ℕ → List Read
read_elements g c [] own = read_list c own
read_elements g c (e ∷ es) own = read_list (suc c) (variables_of g e) ++ read_elements g (suc c + length (variables_of g e)) es own

-- all that step 2 reads for the pivot p, in its order
unfoldable pub reads : Graph → ℕ → List Read
reads g p = read_elements g 0 (elements_of g p) (variables_of g p)

-- "the next free place", and the collections so far
pub record Room : Type 0 where
  pub free : ℕ
  pub collections : ℕ

-- the room while the new element is stored, and what is stored of it so far
pub record Storing : Type 0 where
  pub room : Room
  pub new : List ℕ

-- a collection packs what is not yet read, and the entries stored so far behind it
unfoldable pub collect : Graph → ℕ → ℕ → Room → Room
collect g read stored r = record { free = all_places g - read + stored; collections = suc r.collections }

-- a collection, where "the next free place is the slice's length"
unfoldable pub made_free : ℕ → Graph → ℕ → ℕ → Room → Room
made_free size g read stored r = cond (eqb r.free size) (collect g read stored r) r

-- one place is used
unfoldable pub used : Room → Room
used r = record { free = suc r.free; collections = r.collections }

-- an entry that is read: where it is to be collected, room is made and it is stored
unfoldable pub store_one : ℕ → Graph → ℕ → Storing → Read → Storing
store_one size g p q a =
    cond (wanted g p q.new a.entry)
    (record { room = used (made_free size g a.sofar (length q.new) q.room); new = q.new ++ (a.entry ∷ []) })
    q

-- the room once the new element is stored
unfoldable pub stored : ℕ → Graph → ℕ → Room → Storing
stored size g p r = foldl (store_one size g p) (record { room = r; new = [] }) (reads g p)

-- of the new element only the survivors keep their places
unfoldable pub shrunk : Storing → ℕ → Room
shrunk q survivors = record { free = q.room.free - length q.new + survivors; collections = q.room.collections }

-- a pivot with no element has its element stored in its own old place
unfoldable pub room_step : ℕ → State → Found → State → Room → Room
room_step size s nobody t r = r
room_step size s (found p d) t r =
    cond (is_empty (elements_of s.graph p)) r
    (shrunk (stored size s.graph p r) (length (variables_of t.graph p)))

-- "the number of list collections that happened", in lists of the given size
unfoldable pub collections_of : (ℕ → ℕ) → Bool → ℕ → List (List ℕ) → ℕ → ℕ
collections_of key_of aggressive limit nbrs size =
    let r = beside (room_step size) key_of (length nbrs) (length nbrs) aggressive (started limit nbrs) (record { free = total length nbrs; collections = 0 }) in
    r.collections
