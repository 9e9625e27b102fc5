-- Registers that Open can bring to rest: what writing the free header leaves, and what replaying a pending call leaves.
-- Assumes nothing.
use Rattle.std.proofs.Common.{◌≡◌, ℕ, ◌+◌, ◌-◌, ◌<◌, ◌≤◌, true, false, List, [], ◌∷◌, length, None, Ok, Err, Option, Result, sym, refl, ap, ◌∙◌, subst, inl, inr, arith, Some}
use Rattle.fault.specs.declared.Damage.TheVariants as damage
use Rattle.fault.specs.declared.Fault.{Fault}
use Rattle.device.specs.Disk.{Entry, Disk, blocks, entry_at, put, turned, Event}
use Rattle.device.specs.Disk.{outside, offline, done, lost}
use Rattle.device.specs.declared.Remains.TheVariants as remains
use Rattle.device.proofs.Disk.{put_same, entry_at_put, entry_at_put_other}
use Rattle.pairing.specs.Reservoir.{Reservoir}
use Rattle.journal.specs.Header.{free_bytes, header_of}
use Rattle.journal.specs.HeaderLaws.{LawfulBlocks}
use Rattle.journal.specs.Writes.{Ran, finished, goes_on, stops, write_at, replay_writes}
use Rattle.journal.specs.declared.headers.Header.TheVariants as header
use Rattle.journal.specs.declared.headers.Pending.{Pending}
use Rattle.journal.proofs.HeaderBlocks.{header_blocks}
use Rattle.journal.proofs.HeaderLaws.{headers_read_back}
use Rattle.journal.proofs.Writes.{Splits, within, across, ran_split}
use Rattle.layout.specs.Layout.{Holds}
use Rattle.layout.specs.Reading.{unless, readable, bytes_of, block_fault, first_of}
use Rattle.layout.proofs.Faults.{first_of_each, first_of_none, block_read}
use Rattle.plans.specs.Plans.{agrees, pending_changes}
use Rattle.plans.specs.Recovery.{Rests, Stands, resting, torn, pending}
use Rattle.plans.specs.Views.{viewed}
use Rattle.plans.proofs.Viewing.{Four, four, laid_apart, four_apart, place_four, replay_other, replay_done}

pub err_ok : {A : Type 0} {x : Fault} {a : A} → ◌≡◌ {A = Result A Fault} (Err x) (Ok a) → ⊥
err_ok h = let z : ◌≡◌ {A = ℕ} 0 1 = cc in omega arith

-- ---- headers

-- the blocks of a lawful header have a reservoir's bytes
pub four_lawful : (ts : List ℕ) → LawfulBlocks ts → Four ts
four_lawful [] h = absurd (let n = h.four in omega (arith, n))
four_lawful (a ∷ []) h = absurd (let n = h.four in omega (arith, n))
four_lawful (a ∷ b ∷ []) h = absurd (let n = h.four in omega (arith, n))
four_lawful (a ∷ b ∷ c ∷ []) h = absurd (let n = h.four in omega (arith, n))
four_lawful (a ∷ b ∷ c ∷ e ∷ []) h =
    let x = h.first in
    let y = h.second in
    let z = h.third in
    four a b c e (inr (omega (arith, x.0), x.1)) (inr (omega (arith, y.0), y.1)) (inr (z.0, omega (arith, z.1))) (inl h.fourth)
four_lawful (a ∷ b ∷ c ∷ e ∷ f ∷ ts) h = absurd (let n = h.four in omega (arith, n))

-- a header that reads as pending names four blocks that have a reservoir's bytes
pub header_four : (e : Entry) (p : Pending) → header_of e ≡ header.Pending p → Four p.blocks
header_four e p h = four_lawful p.blocks (header_blocks e p h)

pub unreadable_header : header_of None ≡ header.Unreadable
unfolding header_of
unreadable_header = refl

module _ {X : Type 0} (code : ℕ) (form : X → List ℕ) (reading : List ℕ → Option X) where
  -- ---- the header's block is no block of the reservoir

  pub held_beside : (d : Disk) (e : Entry) (r : Reservoir X) → Holds code form (entry_at d) r → Holds code form (entry_at (put d 1 e)) r
  held_beside d e r h b l = entry_at_put_other d 1 b e (laid_apart b 1 l (omega arith) (omega arith)) ∙ h b l

  pub stands_offline : (d : Disk) {r : Reservoir X} → Stands code form reading d r → Stands code form reading (turned d false) r
  stands_offline d (resting s) = resting (record { free = s.free; holds = s.holds })
  stands_offline d (torn u h) = torn u h
  stands_offline d (pending p u i h a) = pending p u i h a

  -- a lost write of the header leaves what stands, if it leaves the header old
  pub stands_old : (d : Disk) {r : Reservoir X} → Stands code form reading d r → Stands code form reading (turned (put d 1 (entry_at d 1)) false) r
  stands_old d {r} s = stands_offline _ (subst (λ x. Stands code form reading x r) (sym (put_same d 1)) s)

  -- if it leaves it unreadable, the blocks hold what they held
  pub stands_torn :
      (d : Disk) (r : Reservoir X) → 1 < blocks d → Holds code form (entry_at d) r →
      Stands code form reading (turned (put d 1 None) false) r
  stands_torn d r b h =
      stands_offline (put d 1 None) (torn (ap header_of (entry_at_put d 1 _ b) ∙ unreadable_header) (held_beside d _ r h))

  -- ---- the free header

  free_rests : (d : Disk) (r : Reservoir X) → 1 < blocks d → Holds code form (entry_at d) r → Rests code form reading (put d 1 (Some free_bytes)) r
  free_rests d r b h = record {
    free = ap header_of (entry_at_put d 1 _ b) ∙ headers_read_back.free;
    holds = held_beside d _ r h;
  }

  pub freed :
      {d d' : Disk} {r : Reservoir X} {a : Result (Unit {0}) Fault} {es : List Event} → Stands code form reading d r →
      Holds code form (entry_at d) r → Ran (write_at 1 free_bytes ∷ []) d a es d' →
      Stands code form reading d' r × (a ≡ Ok tt → Rests code form reading d' r)
  freed {d} {r = r} s h (goes_on (done b o) finished) = let q = free_rests d r b h in (resting q, λ e. q)
  freed s h (stops (outside b)) = (s, λ e. absurd (err_ok e))
  freed s h (stops (offline b o)) = (s, λ e. absurd (err_ok e))
  freed {d} s h (stops (lost remains.Old b o)) = (stands_old d s, λ e. absurd (err_ok e))
  freed {d} {r = r} s h (stops (lost remains.New b o)) = (stands_offline _ (resting (free_rests d r b h)), λ e. absurd (err_ok e))
  freed {d} {r = r} s h (stops (lost remains.Unreadable b o)) = (stands_torn d r b h, λ e. absurd (err_ok e))

  -- ---- a pending call

  -- as `pending` of Stands says it
  pub record Ahead (d : Disk) (p : Pending) (r : Reservoir X) : Type 0 where
    pub header : header_of (entry_at d 1) ≡ header.Pending p
    pub images : first_of (block_fault (entry_at d)) 2 4 ≡ None
    pub holds : Holds code form (viewed d 2 p.blocks) r
    pub agree : agrees p r ≡ true

  pub ahead_stands : {d : Disk} {p : Pending} {r : Reservoir X} → Ahead d p r → Stands code form reading d r
  ahead_stands {p = p} a = pending p a.header a.images a.holds a.agree

  -- writing to its targets leaves it as it is
  ahead_kept :
      {d d' : Disk} {p : Pending} {r : Reservoir X} {a : Result (Unit {0}) Fault} {es : List Event} → Four p.blocks → Ahead d p r →
      Ran (pending_changes d 2 p.blocks) d a es d' → Ahead d' p r
  ahead_kept {d} {d'} {p} f h run =
      let low : (k : ℕ) → 1 ≤ k → k ≤ 5 → entry_at d' k ≡ entry_at d k = (λ k l m. replay_other d 2 p.blocks run k (four_apart f k l m)) in
      record {
        header = ap header_of (low 1 (omega arith) (omega arith)) ∙ h.header;
        images = first_of_none (block_fault (entry_at d')) 2 4 (λ j l.
            ap (λ e. unless (readable e) (2 + j) damage.Unreadable) (low (2 + j) (omega arith) (omega arith))
            ∙ first_of_each (block_fault (entry_at d)) 2 4 h.images j l);
        holds = λ b l.
            place_four f (λ k. entry_at d' k ≡ entry_at d k) b (λ k m n. low k (omega arith) n) (λ out. replay_other d 2 p.blocks run b out)
            ∙ h.holds b l;
        agree = h.agree;
      }

  four_long : {ts : List ℕ} → Four ts → length ts ≡ 4
  four_long (four t₀ t₁ t₂ t₃ l₀ l₁ l₂ l₃) = refl

  -- once its targets are written, they hold the reservoir
  ahead_held :
      {d d' : Disk} {p : Pending} {r : Reservoir X} {es : List Event} → Four p.blocks → Ahead d p r →
      Ran (pending_changes d 2 p.blocks) d (Ok tt) es d' → Holds code form (entry_at d') r
  ahead_held {d} {p = p} f h run b l =
      let n = four_long f in
      let clean = first_of_each (block_fault (entry_at d)) 2 4 h.images in
      let is : (k : ℕ) → 2 ≤ k → k < 2 + length p.blocks → entry_at d k ≡ Some (bytes_of (entry_at d k)) =
      (λ k m o.
      let at : 2 + (k - 2) ≡ k = omega arith in
      (block_read (entry_at d) k (subst (λ j. block_fault (entry_at d) j ≡ None) at (clean (k - 2) (omega (arith, n))))).0) in
      replay_done d 2 p.blocks run (omega (arith, n)) is b b refl ∙ h.holds b l

  replays_by :
      {d d' : Disk} {p : Pending} {r : Reservoir X} {a : Result (Unit {0}) Fault} {es : List Event} → Four p.blocks → Ahead d p r →
      Splits (pending_changes d 2 p.blocks) (write_at 1 free_bytes ∷ []) d a es d' →
      Stands code form reading d' r × (a ≡ Ok tt → Rests code form reading d' r)
  replays_by f h (within run) = (ahead_stands (ahead_kept f h run), λ e. absurd (err_ok e))
  replays_by f h (across run after joined) = freed (ahead_stands (ahead_kept f h run)) (ahead_held f h run) after

  -- a replay, done or interrupted at any of its writes
  pub replays :
      {d d' : Disk} {p : Pending} {r : Reservoir X} {a : Result (Unit {0}) Fault} {es : List Event} → Four p.blocks → Ahead d p r →
      Ran (replay_writes (pending_changes d 2 p.blocks)) d a es d' →
      Stands code form reading d' r × (a ≡ Ok tt → Rests code form reading d' r)
  replays {d} {p = p} f h run = replays_by f h (ran_split (pending_changes d 2 p.blocks) (write_at 1 free_bytes ∷ []) run)
