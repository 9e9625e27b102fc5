-- What the writes of a Make leave: a first block, a header, blocks behind, and the first block again, with any bytes.
-- Assumes nothing.
use Rattle.std.proofs.Common.{◌≡◌, ℕ, zero, suc, ◌+◌, ◌<◌, ◌≤◌, true, false, ◌≢◌, ◌⊎◌, List, [], ◌∷◌, ◌++◌, map, Result, refl, ap, ◌∙◌, inl, inr, ⊎_elim, arith, Some, None}
use Rattle.std.specs.List.{range_with_len}
use Rattle.std.proofs.lemmas.Bool.{true≢false, false≢true, cases_eq}
use Rattle.fault.specs.declared.Fault.{Fault}
use Rattle.device.specs.declared.Remains.TheVariants as remains
use Rattle.device.specs.Disk.{Entry, Disk, Event, entry_at, put, outside, offline, done, lost}
use Rattle.device.proofs.Disk.{put_same, entry_at_put, entry_at_put_other, wrote_other}
use Rattle.journal.specs.Writes.{Ran, finished, goes_on, stops, landed, write_at}
use Rattle.journal.specs.declared.Write.{Write}

-- z into n blocks from k on, then h into block 0
abbrev pub last_writes : List ℕ → List ℕ → ℕ → ℕ → List Write
last_writes z h k n = map (λ b. write_at b z) (range_with_len k n) ++ (write_at 0 h ∷ [])

-- z into block 0, f into block 1, then those
abbrev pub all_writes : List ℕ → List ℕ → List ℕ → ℕ → ℕ → List Write
all_writes z f h k n = write_at 0 z ∷ (write_at 1 f ∷ last_writes z h k n)

module _ (z h : List ℕ) where
  -- all are on the disk
  pub record Whole (k n : ℕ) (d d' : Disk) : Type 0 where
    pub head : entry_at d' 0 ≡ Some h
    pub zeroed : (b : ℕ) → k ≤ b → b < k + n → entry_at d' b ≡ Some z
    pub kept : (b : ℕ) → 1 ≤ b → b < k → entry_at d' b ≡ entry_at d b

  pub last_whole :
      (k n : ℕ) {d d' : Disk} {a : Result (Unit {0}) Fault} {es : List Event} → 1 ≤ k → Ran (last_writes z h k n) d a es d' →
      landed (suc n) es ≡ true → Whole k n d d'
  last_whole k zero {d} c (goes_on (done i o) finished) l = record {
    head = entry_at_put d 0 (Some h) i;
    zeroed = λ b p q. absurd (omega arith);
    kept = λ b p q. entry_at_put_other d 0 b (Some h) (λ e. omega arith);
  }
  last_whole k zero c (stops (outside i)) l = absurd (false≢true l)
  last_whole k zero c (stops (offline i o)) l = absurd (false≢true l)
  last_whole k zero c (stops (lost remains.Old i o)) l = absurd (false≢true l)
  last_whole k zero {d} c (stops (lost remains.New i o)) l = record {
    head = entry_at_put d 0 (Some h) i;
    zeroed = λ b p q. absurd (omega arith);
    kept = λ b p q. entry_at_put_other d 0 b (Some h) (λ e. omega arith);
  }
  last_whole k zero c (stops (lost remains.Unreadable i o)) l = absurd (false≢true l)
  last_whole k (suc n) {d} {d'} c (goes_on (done i o) r) l =
      let w : Whole (k + 1) n (put d k (Some z)) d' = last_whole (k + 1) n (omega arith) r l in
      record {
        head = w.head;
        zeroed = λ b p q.
            ⊎_elim
            (λ (e : b ≡ k). w.kept b (omega arith) (omega arith) ∙ ap (entry_at (put d k (Some z))) e ∙ entry_at_put d k (Some z) i)
            (λ (e : b ≢ k). w.zeroed b (omega arith) (omega arith))
            (cases_eq b k);
        kept = λ b p q. w.kept b p (omega arith) ∙ entry_at_put_other d k b (Some z) (λ e. omega arith);
      }
  last_whole k (suc n) c (stops (outside i)) l = absurd (false≢true l)
  last_whole k (suc n) c (stops (offline i o)) l = absurd (false≢true l)
  last_whole k (suc n) c (stops (lost m i o)) l = absurd (false≢true l)

  -- the last is not: the header is as before, and block 0 is so too, or unreadable
  pub record Partial (d d' : Disk) : Type 0 where
    pub header : entry_at d' 1 ≡ entry_at d 1
    pub head : (entry_at d' 0 ≡ entry_at d 0) ⊎ (entry_at d' 0 ≡ None)

  pub last_partial :
      (k n : ℕ) {d d' : Disk} {a : Result (Unit {0}) Fault} {es : List Event} → 2 ≤ k → Ran (last_writes z h k n) d a es d' →
      landed (suc n) es ≡ false → Partial d d'
  last_partial k zero c (goes_on (done i o) finished) l = absurd (true≢false l)
  last_partial k zero c (stops (outside i)) l = record { header = refl; head = inl refl }
  last_partial k zero c (stops (offline i o)) l = record { header = refl; head = inl refl }
  last_partial k zero {d} c (stops (lost remains.Old i o)) l =
      let e = put_same d 0 in record { header = ap (λ x. entry_at x 1) e; head = inl (ap (λ x. entry_at x 0) e) }
  last_partial k zero c (stops (lost remains.New i o)) l = absurd (true≢false l)
  last_partial k zero {d} c (stops (lost remains.Unreadable i o)) l =
      record { header = entry_at_put_other d 0 1 None (λ e. omega arith); head = inr (entry_at_put d 0 None i) }
  last_partial k (suc n) {d} {d'} c (goes_on (done i o) r) l =
      let w : Partial (put d k (Some z)) d' = last_partial (k + 1) n (omega arith) r l in
      let same : entry_at (put d k (Some z)) 0 ≡ entry_at d 0 = entry_at_put_other d k 0 (Some z) (λ e. omega arith) in
      record {
        header = w.header ∙ entry_at_put_other d k 1 (Some z) (λ e. omega arith);
        head = ⊎_elim (λ e. inl (e ∙ same)) (λ e. inr e) w.head;
      }
  last_partial k (suc n) c (stops w) l =
      record { header = wrote_other w 1 (λ e. omega arith); head = inl (wrote_other w 0 (λ e. omega arith)) }

-- ---- all writes

-- what block 0 is until the last write
abbrev pub Headless : List ℕ → Entry → Type 0
Headless z e = (e ≡ Some z) ⊎ (e ≡ None)

module _ (z f : List ℕ) where
  -- the last is not on the disk
  pub data Cut (d d' : Disk) : Type 0 where
    -- nothing has changed
    unchanged : ((b : ℕ) → entry_at d' b ≡ entry_at d b) → Cut d d'
    -- block 0 alone has changed
    headless : Headless z (entry_at d' 0) → ((b : ℕ) → b ≢ 0 → entry_at d' b ≡ entry_at d b) → Cut d d'
    -- the header is free or unreadable
    freed : Headless z (entry_at d' 0) → (entry_at d' 1 ≡ Some f) ⊎ (entry_at d' 1 ≡ None) → Cut d d'

module _ (z f h : List ℕ) where
  -- all are on the disk
  pub all_whole :
      (k n : ℕ) {d d' : Disk} {a : Result (Unit {0}) Fault} {es : List Event} → 2 ≤ k → Ran (all_writes z f h k n) d a es d' →
      landed (suc (suc (suc n))) es ≡ true →
      (entry_at d' 0 ≡ Some h) × (entry_at d' 1 ≡ Some f) × ((b : ℕ) → k ≤ b → b < k + n → entry_at d' b ≡ Some z)
  all_whole k n {d} c (goes_on (done i o) (goes_on (done j p) r)) l =
      let w = last_whole z h k n (omega arith) r l in
      (w.head, w.kept 1 (omega arith) (omega arith) ∙ entry_at_put (put d 0 (Some z)) 1 (Some f) j, w.zeroed)
  all_whole k n c (stops (outside i)) l = absurd (false≢true l)
  all_whole k n c (stops (offline i o)) l = absurd (false≢true l)
  all_whole k n c (stops (lost m i o)) l = absurd (false≢true l)
  all_whole k n c (goes_on (done i o) (stops (outside j))) l = absurd (false≢true l)
  all_whole k n c (goes_on (done i o) (stops (offline j p))) l = absurd (false≢true l)
  all_whole k n c (goes_on (done i o) (stops (lost m j p))) l = absurd (false≢true l)

  -- block 1 is written, with an entry, behind block 0
  apart : (d : Disk) (e : Entry) → entry_at (put d 1 e) 0 ≡ entry_at d 0
  apart d e = entry_at_put_other d 1 0 e (λ i. omega arith)

  others : (d : Disk) (e : Entry) (b : ℕ) → b ≢ 0 → entry_at (put d 0 e) b ≡ entry_at d b
  others d e b n = entry_at_put_other d 0 b e n

  cut_last : (d d' : Disk) → entry_at d 0 ≡ Some z → entry_at d 1 ≡ Some f → Partial z h d d' → Headless z (entry_at d' 0) × (entry_at d' 1 ≡ Some f)
  cut_last d d' zs fs w = (⊎_elim (λ e. inl (e ∙ zs)) (λ e. inr e) w.head, w.header ∙ fs)

  pub all_cut :
      (k n : ℕ) {d d' : Disk} {a : Result (Unit {0}) Fault} {es : List Event} → 2 ≤ k → Ran (all_writes z f h k n) d a es d' →
      landed (suc (suc (suc n))) es ≡ false → Cut z f d d'
  all_cut k n c (stops (outside i)) l = unchanged (λ b. refl)
  all_cut k n c (stops (offline i o)) l = unchanged (λ b. refl)
  all_cut k n {d} c (stops (lost remains.Old i o)) l = unchanged (λ b. ap (λ x. entry_at x b) (put_same d 0))
  all_cut k n {d} c (stops (lost remains.New i o)) l = headless (inl (entry_at_put d 0 (Some z) i)) (others d (Some z))
  all_cut k n {d} c (stops (lost remains.Unreadable i o)) l = headless (inr (entry_at_put d 0 None i)) (others d None)
  all_cut k n {d} c (goes_on (done i o) (stops (outside j))) l = headless (inl (entry_at_put d 0 (Some z) i)) (others d (Some z))
  all_cut k n {d} c (goes_on (done i o) (stops (offline j p))) l = headless (inl (entry_at_put d 0 (Some z) i)) (others d (Some z))
  all_cut k n {d} c (goes_on (done i o) (stops (lost remains.Old j p))) l =
      let same = put_same (put d 0 (Some z)) 1 in
      headless
      (inl (ap (λ x. entry_at x 0) same ∙ entry_at_put d 0 (Some z) i))
      (λ b q. ap (λ x. entry_at x b) same ∙ others d (Some z) b q)
  all_cut k n {d} c (goes_on (done i o) (stops (lost remains.New j p))) l =
      freed (inl (apart (put d 0 (Some z)) (Some f) ∙ entry_at_put d 0 (Some z) i)) (inl (entry_at_put (put d 0 (Some z)) 1 (Some f) j))
  all_cut k n {d} c (goes_on (done i o) (stops (lost remains.Unreadable j p))) l =
      freed
      (inl (apart (put d 0 (Some z)) None ∙ entry_at_put d 0 (Some z) i))
      (inr (entry_at_put (put d 0 (Some z)) 1 None j))
  all_cut k n {d} {d'} c (goes_on (done i o) (goes_on (done j p) r)) l =
      let w =
      cut_last
      (put (put d 0 (Some z)) 1 (Some f))
      d'
      (apart (put d 0 (Some z)) (Some f) ∙ entry_at_put d 0 (Some z) i)
      (entry_at_put (put d 0 (Some z)) 1 (Some f) j)
      (last_partial z h k n c r l) in
      freed w.0 (inl w.1)
