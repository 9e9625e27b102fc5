-- What the disk holds after writes, and the places of after-images.
-- Assumes nothing.
use Rattle.std.proofs.Common.{◌≡◌, ℕ, ◌+◌, ◌<◌, ◌≤◌, Bool, List, [], ◌∷◌, ◌++◌, length, refl, ap, ◌∙◌, arith, Some}
use Rattle.device.specs.Disk.{Disk, blocks, entry_at, put, turned}
use Rattle.device.proofs.Disk.{blocks_put, entry_at_put, entry_at_put_other}
use Rattle.journal.specs.declared.Write.{Write}
use Rattle.journal.specs.WriteLaws.{ImagesInPlace}
use Rattle.journal.specs.Writes.{puts, Inside, Spares, next_block, images_from}

pub puts_append : (ws vs : List Write) (d : Disk) → puts (ws ++ vs) d ≡ puts vs (puts ws d)
puts_append [] vs d = refl
puts_append (w ∷ ws) vs d = puts_append ws vs (put d w.block (Some w.bytes))

pub puts_blocks : (ws : List Write) (d : Disk) → blocks (puts ws d) ≡ blocks d
puts_blocks [] d = refl
puts_blocks (w ∷ ws) d =
    puts_blocks ws (put d w.block (Some w.bytes)) ∙ blocks_put d w.block (Some w.bytes)

pub puts_online : (ws : List Write) (d : Disk) → (puts ws d).online ≡ d.online
puts_online [] d = refl
puts_online (w ∷ ws) d = puts_online ws (put d w.block (Some w.bytes))

pub puts_turned : (ws : List Write) (d : Disk) (o : Bool) → puts ws (turned d o) ≡ turned (puts ws d) o
puts_turned [] d o = refl
puts_turned (w ∷ ws) d o = puts_turned ws (put d w.block (Some w.bytes)) o

pub puts_other : (ws : List Write) (d : Disk) (k : ℕ) → Spares k ws → entry_at (puts ws d) k ≡ entry_at d k
puts_other [] d k n = refl
puts_other (w ∷ ws) d k n =
    puts_other ws (put d w.block (Some w.bytes)) k n.1
    ∙ entry_at_put_other d w.block k (Some w.bytes) n.0

-- a block holds the bytes of the last write to it
pub puts_last :
    (ws : List Write) (w : Write) (vs : List Write) (d : Disk) → w.block < blocks d → Spares w.block vs →
    entry_at (puts (ws ++ (w ∷ vs)) d) w.block ≡ Some w.bytes
puts_last ws w vs d h n =
    let e = puts ws d in
    let same : blocks e ≡ blocks d = puts_blocks ws d in
    ap (λ x. entry_at x w.block) (puts_append ws (w ∷ vs) d)
    ∙ puts_other vs (put e w.block (Some w.bytes)) w.block n
    ∙ entry_at_put e w.block (Some w.bytes) (omega arith)

-- ---- after-images

-- none is to a block before the first
pub images_after : (first k : ℕ) (ws : List Write) → k < first → first ≤ 65535 → Spares k (images_from first ws)
images_after first k [] h top = tt
images_after first k (w ∷ ws) h top =
    ((λ e. omega arith), images_after (next_block first) k ws (omega arith) (omega arith))

-- nor to one behind the last
pub images_before :
    (first k : ℕ) (ws : List Write) → first + length ws ≤ k → first + length ws ≤ 65535 → Spares k (images_from first ws)
images_before first k [] h top = tt
images_before first k (w ∷ ws) h top =
    ((λ e. omega arith), images_before (next_block first) k ws (omega arith) (omega arith))

pub images_inside :
    (first : ℕ) (ws : List Write) (d : Disk) → first + length ws ≤ blocks d → blocks d ≤ 65535 → Inside (images_from first ws) d
images_inside first [] d h top = tt
images_inside first (w ∷ ws) d h top = (omega arith, images_inside (next_block first) ws d (omega arith) top)

pub images_in_place : ImagesInPlace
images_in_place = record { before = images_after; behind = images_before; inside = images_inside }
