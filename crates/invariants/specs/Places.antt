-- The places of a directory's words, what stands there, and when words stand for a directory.
use Rattle.std.specs.Prelude.{ℕ, suc, ◌+◌, ◌*◌, ◌^◌, ◌≤◌, ◌<◌, ◌≡◌, Bool, true, ◌&&◌, cond, List, eqb, length, get_or}
use Rattle.meaning.specs.Neighbours.{NONE, has, after, before, Nodup}
use Rattle.meaning.specs.Mem.{Mem, home, entry_count, index_bits}

-- the eight words of an entry, in their order
pub data Col : Type 0 where
  page list slot prev next chain mark spare : Col

abbrev pub num : Col → ℕ
num page = 0
num list = 1
num slot = 2
num prev = 3
num next = 4
num chain = 5
num mark = 6
num spare = 7

-- where a word stands: header words 0 to 6; the head and the tail of list j, 1 to 4; header word 15; an entry's word; a bucket
pub data Place : Type 0 where
  top head tail bucket : ℕ → Place
  end : Place
  cell : Col → ℕ → Place

-- a memory: a number at each place
abbrev pub Image : Type 0
Image = Place → ℕ

-- the places of a memory of n entries and 2 ^ k buckets, and their addresses
abbrev pub Valid : ℕ → ℕ → Place → Type 0
Valid n k (top t) = t < 7
Valid n k (head j) = (1 ≤ j) × (j ≤ 4)
Valid n k (tail j) = (1 ≤ j) × (j ≤ 4)
Valid n k (bucket b) = b < 2 ^ k
Valid n k end = Unit {0}
Valid n k (cell c i) = i < n

abbrev pub addr : ℕ → Place → ℕ
addr n (top t) = t
addr n (head j) = 5 + 2 * j
addr n (tail j) = 6 + 2 * j
addr n (bucket b) = 16 + 8 * n + b
addr n end = 15
addr n (cell c i) = 16 + 8 * i + num c

-- the words ws are the memory w
pub record Holds (n k : ℕ) (ws : List ℕ) (w : Image) : Type 0 where
  pub size : length ws ≡ 16 + 8 * n + 2 ^ k
  pub at : (q : Place) → Valid n k q → get_or ws (addr n q) 0 ≡ w q

-- the memory of a directory
abbrev pub image : Mem → Image
image m (top k) = m.tops k
image m (head j) = after (m.order j) NONE
image m (tail j) = before (m.order j) NONE
image m (bucket b) = after (m.chained b) NONE
image m end = 0
image m (cell page i) = m.pages i
image m (cell list i) = m.lists i
image m (cell slot i) = m.slots i
image m (cell prev i) = before (m.order (m.lists i)) i
image m (cell next i) = after (m.order (m.lists i)) i
image m (cell chain i) = after (m.chained (home m (m.pages i))) i
image m (cell mark i) = m.marks i
image m (cell spare i) = 0

-- lists of the numbers below n, of which i is on the one that key names or on none, and nowhere twice
pub record Family (n : ℕ) (lists : ℕ → List ℕ) (key : ℕ → ℕ) : Type 0 where
  pub once : (l : ℕ) → Nodup (lists l)
  pub member : (l i : ℕ) → has (lists l) i ≡ true → (i < n) × (key i ≡ l)

-- what is asked of a directory, and kept by every operation: no list and no chain has an entry twice or one of another list or bucket, and no page stands in two entries
pub record Fine (m : Mem) : Type 0 where
  pub few : entry_count m ≤ 1024
  pub bits : index_bits m ≤ 32
  pub linked : Family (entry_count m) m.order m.lists
  pub chains : Family (entry_count m) m.chained (λ i. home m (m.pages i))
  pub range : (j i : ℕ) → has (m.order j) i ≡ true → (1 ≤ j) × (j ≤ 4)
  pub used : (b i : ℕ) → has (m.chained b) i ≡ true → m.pages i ≡ NONE → ⊥
  pub apart : (i h : ℕ) → (m.pages i ≡ NONE → ⊥) → m.pages i ≡ m.pages h → i ≡ h

pub record Repr (ws : List ℕ) (m : Mem) : Type 0 where
  pub holds : Holds (entry_count m) (index_bits m) ws (image m)
  pub fine : Fine m

-- a place by two numbers: which kind, and which of the kind
abbrev pub kind : Place → ℕ
kind (top k) = 0
kind (head j) = 1
kind (tail j) = 2
kind (bucket b) = 3
kind end = 4
kind (cell c i) = suc (suc (suc (suc (suc (num c)))))

abbrev pub nth : Place → ℕ
nth (top k) = k
nth (head j) = j
nth (tail j) = j
nth (bucket b) = b
nth end = 0
nth (cell c i) = i

-- r is the place q
abbrev pub is : Place → Place → Bool
is q r = eqb (kind r) (kind q) && eqb (nth r) (nth q)

-- the memory w with v at the place q
abbrev pub store : Image → Place → ℕ → Image
store w q v r = cond (is q r) v (w r)

-- a list's two directions: to the back, and to the front
pub data Side : Type 0 where
  fwd bwd : Side

abbrev pub other : Side → Side
other fwd = bwd
other bwd = fwd

abbrev pub beside : Side → List ℕ → ℕ → ℕ
beside fwd = after
beside bwd = before

-- the memory w with v for the link that leads on from p: column c of p, or where p is NONE the place q, a head, a tail or a bucket
abbrev pub store_link : Image → Place → Col → ℕ → ℕ → Image
store_link w q c p v r = cond (is (cell c p) r) v (cond (is q r && eqb NONE p) v (w r))

-- the address of that link, a being q's address and f the column's number
abbrev pub link_at : ℕ → ℕ → ℕ → ℕ
link_at a f p = cond (eqb p NONE) a (16 + 8 * p + f)

-- ws is a directory of which ok holds
pub record Ready (ws : List ℕ) (ok : Mem → Type 0) : Type 0 where
  pub mem : Mem
  pub repr : Repr ws mem
  pub meets : ok mem

-- whatever directory ws is, if ok holds of it, ws' is what f makes of it
pub record Turns (ws ws' : List ℕ) (ok : Mem → Type 0) (f : Mem → Mem) : Type 0 where
  pub to : (m : Mem) → Repr ws m → ok m → Repr ws' (f m)

-- whatever directory ws is, P holds of it
pub record Says (ws : List ℕ) (P : Mem → Type 0) : Type 0 where
  pub of : (m : Mem) → Repr ws m → P m

abbrev pub Any : Mem → Type 0
Any m = Unit {0}
