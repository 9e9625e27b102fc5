-- The image's disk, by its bytes.
use Rattle.std.proofs.Common.{◌≡◌, ℕ, ◌+◌, ◌-◌, ◌*◌, ◌/◌, ◌<◌, ◌≤◌, min, true, ◌≢◌, ◌⊎◌, List, ◌++◌, length, get_or, take, drop, set, sym, refl, ap, ◌∙◌, inl, inr, arith, Some, None}
use Rattle.std.proofs.lemmas.List.{length-set, length-take, length-drop, length-append, length-take-le, append_assoc, get_or-set_same, get_or-set_other, same_lists, drop_at, take_at, drop-append-le, take-append-le, drop-take, drop-drop, take-take}
use Rattle.std.proofs.lemmas.List.FromFn.{length-map-range_with_len, get_or-map-range_with_len}
use Rattle.std.proofs.lemmas.Bool.{cases_order}
use Rattle.device.specs.Disk.{Entry, blocks, entry_at, put}
use Rattle.device.specs.ImageDisk.{blocks_in, block_in, with_block, disk_in}

pub blocks_disk_in : (bytes : List ℕ) → blocks (disk_in bytes) ≡ blocks_in bytes
unfolding disk_in
blocks_disk_in bytes = length-map-range_with_len (λ b. Some (block_in bytes b)) 0 (blocks_in bytes)

pub online_disk_in : (bytes : List ℕ) → (disk_in bytes).online ≡ true
unfolding disk_in
online_disk_in bytes = refl

get_d_disk_in : (bytes : List ℕ) (b : ℕ) (e : Entry) → b < blocks_in bytes → get_or (disk_in bytes).entries b e ≡ Some (block_in bytes b)
unfolding disk_in
get_d_disk_in bytes b e h =
    get_or-map-range_with_len (λ b. Some (block_in bytes b)) 0 (blocks_in bytes) b b e h (omega arith)

pub entry_at_disk_in : (bytes : List ℕ) (b : ℕ) → b < blocks_in bytes → entry_at (disk_in bytes) b ≡ Some (block_in bytes b)
entry_at_disk_in bytes b h = get_d_disk_in bytes b None h

-- a block of the image lies within the bytes
pub block_within : (bytes : List ℕ) (b : ℕ) → b < blocks_in bytes → 512 * b + 512 ≤ length bytes
block_within bytes b h = omega arith

-- ---- the image after a write

module _ (bytes : List ℕ) (b : ℕ) (new : List ℕ) (fits : 512 * b + 512 ≤ length bytes) (long : length new ≡ 512) where
  length_with_block : length (with_block bytes b new) ≡ length bytes
  length_with_block = simp (length-append, length-take, length-drop) (omega arith)

  length_before : length (take (512 * b) bytes) ≡ 512 * b
  length_before = length-take-le (512 * b) bytes (omega arith)

  -- the block written
  block_in_same : block_in (with_block bytes b new) b ≡ new
  block_in_same =
      ap (take 512) (drop_at (take (512 * b) bytes) (new ++ drop (512 * b + 512) bytes) (512 * b) length_before)
      ∙ take_at new (drop (512 * b + 512) bytes) 512 long

  -- a block below it
  block_in_below : (k : ℕ) → k < b → block_in (with_block bytes b new) k ≡ block_in bytes k
  block_in_below k h =
      let within : 512 * k ≤ length (take (512 * b) bytes) = omega (arith, length_before) in
      let split : 512 * b ≡ 512 * k + (512 * b - 512 * k) = omega arith in
      let room : 512 ≤ length (drop (512 * k) (take (512 * b) bytes)) = simp (length-drop, length-take) (omega arith) in
      ap (take 512) (drop-append-le (512 * k) (take (512 * b) bytes) (new ++ drop (512 * b + 512) bytes) within)
      ∙ take-append-le 512 (drop (512 * k) (take (512 * b) bytes)) (new ++ drop (512 * b + 512) bytes) room
      ∙ ap (λ n. take 512 (drop (512 * k) (take n bytes))) split
      ∙ ap (take 512) (drop-take (512 * k) (512 * b - 512 * k) bytes)
      ∙ take-take 512 (512 * b - 512 * k) (drop (512 * k) bytes) (omega arith)

  -- a block above it
  block_in_above : (k : ℕ) → b < k → block_in (with_block bytes b new) k ≡ block_in bytes k
  block_in_above k h =
      let past : 512 * k ≡ (512 * b + 512) + (512 * k - (512 * b + 512)) = omega arith in
      let front : length (take (512 * b) bytes ++ new) ≡ 512 * b + 512 = simp length-append (omega (arith, length_before)) in
      let rest : drop (512 * b + 512) (with_block bytes b new) ≡ drop (512 * b + 512) bytes =
      ap (drop (512 * b + 512)) (sym (append_assoc (take (512 * b) bytes) new (drop (512 * b + 512) bytes)))
      ∙ drop_at (take (512 * b) bytes ++ new) (drop (512 * b + 512) bytes) (512 * b + 512) front in
      let skip : (xs : List ℕ) → drop (512 * k) xs ≡ drop (512 * k - (512 * b + 512)) (drop (512 * b + 512) xs) =
      λ xs. ap (λ n. drop n xs) past ∙ sym (drop-drop (512 * k - (512 * b + 512)) (512 * b + 512) xs) in
      ap (take 512) (skip (with_block bytes b new) ∙ ap (drop (512 * k - (512 * b + 512))) rest ∙ sym (skip bytes))

  blocks_in_with_block : blocks_in (with_block bytes b new) ≡ blocks_in bytes
  blocks_in_with_block = ap (λ n. min (n / 512) 65535) length_with_block

-- the bytes with new ones in block b are the image with them in its block b
pub disk_in_with_block : (bytes : List ℕ) (b : ℕ) (new : List ℕ) → b < blocks_in bytes → length new ≡ 512 → disk_in (with_block bytes b new) ≡ put (disk_in bytes) b (Some new)
disk_in_with_block bytes b new h long =
    λ i. record { entries = same i; online = (online_disk_in (with_block bytes b new) ∙ sym (online_disk_in bytes)) i }
  where
    fits : 512 * b + 512 ≤ length bytes
    fits = block_within bytes b h

    blocks_same : blocks_in (with_block bytes b new) ≡ blocks_in bytes
    blocks_same = blocks_in_with_block bytes b new fits long

    long_same : length (disk_in (with_block bytes b new)).entries ≡ length (set (disk_in bytes).entries b (Some new))
    long_same = blocks_disk_in (with_block bytes b new) ∙ blocks_same ∙ sym (length-set (disk_in bytes).entries b (Some new) ∙ blocks_disk_in bytes)

    block_other : (k : ℕ) → (k < b) ⊎ (b < k) → block_in (with_block bytes b new) k ≡ block_in bytes k
    block_other k (inl l) = block_in_below bytes b new fits long k l
    block_other k (inr l) = block_in_above bytes b new fits long k l

    at : (k : ℕ) (e : Entry) → k < blocks_in bytes → (k ≡ b) ⊎ ((k < b) ⊎ (b < k)) → Some (block_in (with_block bytes b new) k) ≡ get_or (set (disk_in bytes).entries b (Some new)) k e
    at k e l (inl q) =
        ap (λ j. Some (block_in (with_block bytes b new) j)) q
        ∙ ap Some (block_in_same bytes b new fits long)
        ∙ sym (get_or-set_same (disk_in bytes).entries b (Some new) e (omega (arith, blocks_disk_in bytes)))
        ∙ ap (λ j. get_or (set (disk_in bytes).entries b (Some new)) j e) (sym q)
    at k e l (inr o) =
        ap Some (block_other k o)
        ∙ sym (get_d_disk_in bytes k e l)
        ∙ sym (get_or-set_other (disk_in bytes).entries b k (Some new) e (apart o))
      where
        apart : (k < b) ⊎ (b < k) → k ≢ b
        apart (inl m) = omega arith
        apart (inr m) = omega arith

    same : (disk_in (with_block bytes b new)).entries ≡ set (disk_in bytes).entries b (Some new)
    same =
        same_lists (disk_in (with_block bytes b new)).entries (set (disk_in bytes).entries b (Some new)) long_same
        (λ k e l.
        let m : k < blocks_in bytes = omega (arith, blocks_disk_in (with_block bytes b new), blocks_same) in
        get_d_disk_in (with_block bytes b new) k e (omega (arith, blocks_same)) ∙ at k e m (cases_order k b))
