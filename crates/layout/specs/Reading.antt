-- How blocks are read as a reservoir, and the first fault that keeps them from being one.
-- Assumes nothing.
use Rattle.std.specs.Prelude.{ℕ, zero, suc, ◌+◌, ◌*◌, ◌/◌, ◌%◌, Bool, false, cond, not, ◌&&◌, ◌||◌, ltb, List, [], ◌∷◌, length, take, drop, is_some, Some, None, Ok, Err, sum_by, Option, Result, ◌==◌, count_ones, nat_lt, slice_index}
use Rattle.std.specs.Option.{option_or}
use Rattle.std.specs.Str.{bytes_eq}
use Rattle.fault.specs.Refusals.{not_register}
use Rattle.fault.specs.declared.Damage.{Damage}
use Rattle.fault.specs.declared.Damage.TheVariants as damage
use Rattle.fault.specs.declared.Fault.{Fault}
use Rattle.octets.specs.Numbers.{number_at}
use Rattle.octets.specs.Zeros.{every, blank}
use Rattle.pairing.specs.Reservoir.{Slot, Reservoir}
use Rattle.pairing.specs.Ranges.{in_range, balanced}
use Rattle.pairing.specs.declared.counts.Counts.{Counts}
use Rattle.layout.specs.Layout.{mark, joined}
use Rattle.device.specs.Disk.{Entry}

-- ---- faults, the first first

-- a fault at block b unless the test passes
abbrev pub unless : Bool → ℕ → Damage → Option Fault
unless passes b damage = cond passes None (Some (not_register b damage))

-- the first fault of n parts, from the i-th on
abbrev pub first_of : (ℕ → Option Fault) → ℕ → ℕ → Option Fault
first_of fault i zero = None
first_of fault i (suc n) = option_or (fault i) (first_of fault (i + 1) n)

-- the answer, unless there is a fault
abbrev pub unless_fault : {A : Type 0} → Option Fault → A → Result A Fault
unless_fault (Some f) a = Err f
unless_fault None a = Ok a

-- ---- blocks

abbrev pub bytes_of : Entry → List ℕ
bytes_of (Some xs) = xs
bytes_of None = []

-- 512 bytes, as every array of them has
unfoldable pub is_block : List ℕ → Bool
is_block xs = length xs == 512 && every (λ b. ltb b 256) xs

abbrev pub readable : Entry → Bool
readable (Some xs) = is_block xs
readable None = false

abbrev pub block_fault : (ℕ → Entry) → ℕ → Option Fault
block_fault blocks b = unless (readable (blocks b)) b damage.Unreadable

-- zeros from a place on
abbrev pub blank_at : List ℕ → ℕ → ℕ → Bool
blank_at xs at count = every blank (take count (drop at xs))

-- ---- the head

abbrev pub kind_in : List ℕ → ℕ
kind_in xs = number_at xs 4 1

unfoldable pub counts_in : List ℕ → Counts
counts_in xs = record {
  capacity = number_at xs 8 2;
  size = number_at xs 12 2;
  sampled = number_at xs 10 2;
  c1 = number_at xs 14 2;
  c2 = number_at xs 16 2;
  calls = number_at xs 24 8;
  words = number_at xs 32 8;
}

-- the mark, and zeros in the bytes that hold nothing
abbrev pub marked : List ℕ → Bool
marked xs = bytes_eq (take 4 xs) mark && (blank_at xs 5 3 && (blank_at xs 18 6 && blank_at xs 40 472))

abbrev pub known_kind : ℕ → Bool
known_kind kind = kind == 1 || kind == 2

-- numbers that no reservoir has
abbrev pub counts_fault : Counts → Option Fault
counts_fault n = option_or (unless (in_range n) 0 damage.Range) (unless (balanced n) 0 damage.Disagreement)

-- for a caller with this kind
unfoldable pub head_fault : ℕ → List ℕ → Option Fault
head_fault code xs =
    option_or (unless (marked xs) 0 damage.Mark)
    (option_or (unless (known_kind (kind_in xs)) 0 damage.Range)
    (option_or (unless (in_range (counts_in xs)) 0 damage.Range)
    (option_or (unless (balanced (counts_in xs)) 0 damage.Disagreement)
    (unless (kind_in xs == code) 0 damage.OtherKind))))

-- ---- the stock

-- the bytes of blocks 6 to 13
unfoldable pub stock_in : (ℕ → Entry) → List ℕ
stock_in blocks = joined (λ b. bytes_of (blocks b)) 6 8

-- bit t of a number
abbrev pub bit_at : ℕ → ℕ → Bool
bit_at n zero = n % 2 == 1
bit_at n (suc t) = bit_at (n / 2) t

-- the numbers that bytes spell: number p is bit p mod 8 of byte p / 8
unfoldable pub in_set : List ℕ → ℕ → Bool
in_set bytes p = bit_at (slice_index bytes (p / 8)) (p % 8)

-- how many they are
unfoldable pub ones_in : List ℕ → ℕ
ones_in bytes = sum_by count_ones bytes

-- ---- the slots

-- the 64 bytes of slot i
unfoldable pub slot_in : (ℕ → Entry) → ℕ → List ℕ
slot_in blocks i = take 64 (drop (64 * (i % 8)) (bytes_of (blocks (14 + i / 8))))

abbrev pub number_in : (ℕ → Entry) → ℕ → ℕ
number_in blocks i = number_at (slot_in blocks i) 0 2

abbrev pub form_in : (ℕ → Entry) → ℕ → List ℕ
form_in blocks i = drop 4 (slot_in blocks i)

-- whether p is the number of a slot below i
abbrev pub earlier : (ℕ → ℕ) → ℕ → ℕ → Bool
earlier numbers zero p = false
earlier numbers (suc i) p = numbers i == p || earlier numbers i p

-- the numbers that slot i may have: those in stock that no slot below has
abbrev pub left_at : (ℕ → Entry) → ℕ → ℕ → Bool
left_at blocks i p = in_set (stock_in blocks) p && not (earlier (number_in blocks) i p)

-- a slot in use, of block b: its zeros; its number, which is one of a set; its form
unfoldable pub used_fault : {X : Type 0} → (List ℕ → Option X) → (ℕ → Bool) → ℕ → List ℕ → Option Fault
used_fault reading set b xs =
    option_or (unless (blank_at xs 2 2) b damage.Mark)
    (option_or (unless (nat_lt (number_at xs 0 2) 32768) b damage.Range)
    (option_or (unless (set (number_at xs 0 2)) b damage.Disagreement)
    (unless (is_some (reading (drop 4 xs))) b damage.Range)))

-- a slot that is not in use, of block b
unfoldable pub unused_fault : ℕ → List ℕ → Option Fault
unused_fault b xs = unless (every blank xs) b damage.Mark

-- slot i, of block b: in use below k
abbrev pub slot_fault : {X : Type 0} → (List ℕ → Option X) → (ℕ → Entry) → ℕ → ℕ → ℕ → Option Fault
slot_fault reading blocks k b i =
    cond (nat_lt i k) (used_fault reading (left_at blocks i) b (slot_in blocks i)) (unused_fault b (slot_in blocks i))

-- the j-th block of slots
unfoldable pub slots_fault : {X : Type 0} → (List ℕ → Option X) → (ℕ → Entry) → ℕ → ℕ → Option Fault
slots_fault reading blocks k j =
    option_or (block_fault blocks (14 + j)) (first_of (slot_fault reading blocks k (14 + j)) (8 * j) 8)

-- ---- all blocks, in this order

unfoldable pub fault_in : {X : Type 0} → ℕ → (List ℕ → Option X) → (ℕ → Entry) → Option Fault
fault_in code reading blocks =
    option_or (block_fault blocks 0)
    (option_or (head_fault code (bytes_of (blocks 0)))
    (option_or (first_of (block_fault blocks) 6 8)
    (option_or (unless (ones_in (stock_in blocks) == (counts_in (bytes_of (blocks 0))).size) 6 damage.Disagreement)
    (first_of (slots_fault reading blocks (counts_in (bytes_of (blocks 0))).sampled) 0 64))))

-- n slots, from the i-th on
abbrev pub with_item : {X : Type 0} → ℕ → Option X → List (Slot X) → List (Slot X)
with_item number (Some x) later = record { number = number; item = x } ∷ later
with_item number None later = later

abbrev pub slots_in : {X : Type 0} → (List ℕ → Option X) → (ℕ → Entry) → ℕ → ℕ → List (Slot X)
slots_in reading blocks i zero = []
slots_in reading blocks i (suc n) = with_item (number_in blocks i) (reading (form_in blocks i)) (slots_in reading blocks (i + 1) n)

-- the reservoir that the blocks spell
unfoldable pub spelled : {X : Type 0} → (List ℕ → Option X) → (ℕ → Entry) → Reservoir X
spelled reading blocks = record {
  capacity = (counts_in (bytes_of (blocks 0))).capacity;
  stock = in_set (stock_in blocks);
  size = (counts_in (bytes_of (blocks 0))).size;
  slots = slots_in reading blocks 0 (counts_in (bytes_of (blocks 0))).sampled;
  c1 = (counts_in (bytes_of (blocks 0))).c1;
  c2 = (counts_in (bytes_of (blocks 0))).c2;
  calls = (counts_in (bytes_of (blocks 0))).calls;
  words = (counts_in (bytes_of (blocks 0))).words;
}

-- the first fault in the blocks, or the reservoir that they hold
unfoldable pub decode : {X : Type 0} → ℕ → (List ℕ → Option X) → (ℕ → Entry) → Result (Reservoir X) Fault
decode code reading blocks = unless_fault (fault_in code reading blocks) (spelled reading blocks)
