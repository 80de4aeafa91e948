-- Where each working array of the ordering lies in the one scratch slice: nnz + 16·n + 16 cells, as document 01 asks. docs/LAYOUT.md has the same as one table.
--
--   cells 0 to 8·n            field f < 8 of node i at 8·i + f: what a pivot asks of a node stands together
--   cells 8·n to 16·n + 1     table t at t·n + i, for t from 8 to 15; table 15 has n + 1 cells
--   cells 16·n + 16 on        the rows of the cleaned pattern; nnz of them in the least room
--
-- An index has one meaning in each phase; names that share one belong to different phases, but for TMP, which a gather is done with before a key is written.
-- Assumes nothing.
use Rattle.std.specs.Prelude.{ℕ}

-- ---- fields of a node

-- build: the place of row i's list. eliminate: the same, of every object whose LEN is not 0. From its death on: its parent, in the signed code of `Links`.
abbrev pub PE : ℕ
PE = 0

-- build: how many neighbours row i has. eliminate: the length of i's list, 0 of a dead object.
abbrev pub LEN : ℕ
LEN = 1

-- eliminate: the weight of i while it is a principal variable outside the new element, else 0.
abbrev pub WANT : ℕ
WANT = 2

-- eliminate: how many elements variable i's list begins with. Of an element, to the end: its size, pivots and remaining weight.
abbrev pub ELEN : ℕ
ELEN = 3

-- eliminate: the degree of variable i. Of an element, to the end: its remaining weight.
abbrev pub DEGREE : ℕ
DEGREE = 4

-- eliminate: the flag of i; 0 of an element that is no more.
abbrev pub W : ℕ
W = 5

-- eliminate: the variable behind i in its degree list, and the one before it; n is none.
abbrev pub NEXT : ℕ
NEXT = 6

abbrev pub LAST : ℕ
LAST = 7

-- ---- tables of the elimination

-- the front of the list of degree i; n is none
abbrev pub HEAD : ℕ
HEAD = 8

-- the newest variable with key i; n is none
abbrev pub HHEAD : ℕ
HHEAD = 9

-- the variable before i with i's key; n is none. Nothing may rely on it between two pivots.
abbrev pub HNEXT : ℕ
HNEXT = 10

-- the key of variable i
abbrev pub HKEY : ℕ
HKEY = 11

-- the i-th variable that a gather found: before any key of its pivot is written
abbrev pub TMP : ℕ
TMP = 11

-- the i-th element that was made at the free end of the lists
abbrev pub ORD : ℕ
ORD = 12

-- the i-th row that was merged into another; read again for the owners
abbrev pub MERGES : ℕ
MERGES = 13

-- the weight of variable i, the pivots of element i, 0 of a merged or a dense row; to the end
abbrev pub NV : ℕ
NV = 14

-- ---- tables used before it

-- clean: how often row i comes, then its next free place. count: how many neighbours row i has so far. build: the next free place of row i's list.
abbrev pub SP : ℕ
SP = 12

-- clean: one more than the last column that had row i. count, build: where the scan of column i stands.
abbrev pub TP : ℕ
TP = 13

-- ---- tables used after it

-- the child behind i; n is none
abbrev pub SIBLING : ℕ
SIBLING = 9

-- the largest child of row i, while the lists of children are made; n is none
abbrev pub LARGEST : ℕ
LARGEST = 10

-- the i-th entry of the stack: once the lists are made
abbrev pub STACK : ℕ
STACK = 10

-- the first of what hangs under row i, and under n, which is no row: the roots; n is none
abbrev pub FIRST : ℕ
FIRST = 15

-- ---- the cleaned pattern: clean, count, build; nothing reads it later

-- the pointer of column i; n + 1 of them
abbrev pub COLUMN : ℕ
COLUMN = 15

-- its i-th row
abbrev pub ENTRY : ℕ
ENTRY = 16
