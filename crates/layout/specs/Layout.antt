-- Where a reservoir lies: the bytes of the head (block 0), of the stock (blocks 6 to 13) and of the slots (blocks 14 to 77).
-- Assumes nothing.
use Rattle.std.specs.Prelude.{◌≡◌, ℕ, zero, suc, ◌+◌, ◌-◌, ◌*◌, ◌%◌, ◌≤◌, Bool, cond, ◌⊎◌, List, [], ◌∷◌, ◌++◌, map, take, drop, codes, ◌==◌, nat_lt, Some}
use Rattle.std.specs.List.{range_with_len}
use Rattle.octets.specs.Numbers.{little}
use Rattle.octets.specs.Zeros.{zeros}
use Rattle.pairing.specs.Reservoir.{Slot, Reservoir}
use Rattle.pairing.specs.Rules.{bit}
use Rattle.pairing.specs.Steps.{counts_of}
use Rattle.pairing.specs.declared.counts.Counts.{Counts}
use Rattle.device.specs.Disk.{Entry}

-- ---- the head

abbrev pub mark : List ℕ
mark = codes "RPR1"

-- the mark; at 4 the kind's code; at 8, 10, 12, 14, 16 M, k, N, c1, c2; at 24 and 32 q and w; zeros elsewhere
unfoldable pub head_of : ℕ → Counts → List ℕ
head_of code n =
    mark ++ (little 1 code ++ (zeros 3
    ++ (little 2 n.capacity ++ (little 2 n.sampled ++ (little 2 n.size ++ (little 2 n.c1 ++ (little 2 n.c2
    ++ (zeros 6 ++ (little 8 n.calls ++ (little 8 n.words ++ zeros 472))))))))))

-- ---- the stock

-- n numbers from p on as bits, the lowest first
abbrev pub packed : (ℕ → Bool) → ℕ → ℕ → ℕ
packed set p zero = 0
packed set p (suc n) = bit (set p) + 2 * packed set (p + 1) n

-- byte i of the stock has the numbers 8 i to 8 i + 7
abbrev pub stock_byte : (ℕ → Bool) → ℕ → ℕ
stock_byte set i = packed set (8 * i) 8

-- the j-th of the stock's eight blocks
unfoldable pub stock_block : (ℕ → Bool) → ℕ → List ℕ
stock_block set j = map (stock_byte set) (range_with_len (512 * j) 512)

-- ---- the slots

-- a slot in use: the number, two zeros, the form of the item
abbrev pub slot_bytes : {X : Type 0} → (X → List ℕ) → Slot X → List ℕ
slot_bytes form x = little 2 x.number ++ (zeros 2 ++ form x.item)

-- the 64 bytes of slot i: zeros where it is not in use
abbrev pub slot_at : {X : Type 0} → (X → List ℕ) → List (Slot X) → ℕ → List ℕ
slot_at form [] i = zeros 64
slot_at form (x ∷ xs) zero = slot_bytes form x
slot_at form (x ∷ xs) (suc i) = slot_at form xs i

-- n parts, from the i-th on
abbrev pub joined : (ℕ → List ℕ) → ℕ → ℕ → List ℕ
joined part i zero = []
joined part i (suc n) = part i ++ joined part (i + 1) n

-- the j-th of the 64 blocks of slots, which has eight
unfoldable pub slot_block : {X : Type 0} → (X → List ℕ) → List (Slot X) → ℕ → List ℕ
slot_block form slots j = joined (slot_at form slots) (8 * j) 8

-- the block with new bytes in its slot, for slot i of all
unfoldable pub with_slot : List ℕ → ℕ → List ℕ → List ℕ
with_slot xs i new = take (64 * (i % 8)) xs ++ (new ++ drop (64 * (i % 8) + 64) xs)

-- ---- all blocks

-- the bytes of block b
unfoldable pub content : {X : Type 0} → ℕ → (X → List ℕ) → Reservoir X → ℕ → List ℕ
content code form r b =
    cond (b == 0) (head_of code (counts_of r)) (cond (nat_lt b 14) (stock_block r.stock (b - 6)) (slot_block form r.slots (b - 14)))

-- the blocks that have a reservoir's bytes
abbrev pub Laid : ℕ → Type 0
Laid b = (b ≡ 0) ⊎ ((6 ≤ b) × (b ≤ 77))

-- these blocks hold the reservoir
abbrev pub Holds : {X : Type 0} → ℕ → (X → List ℕ) → (ℕ → Entry) → Reservoir X → Type 0
Holds code form blocks r = (b : ℕ) → Laid b → blocks b ≡ Some (content code form r b)
