-- A commit, done or interrupted at any of its ten writes.
-- Assumes nothing.
use Rattle.std.proofs.Common.{◌≡◌, ℕ, zero, suc, ◌+◌, ◌<◌, ◌≤◌, true, false, cond, ◌≢◌, List, [], ◌∷◌, ◌++◌, map, length, None, Ok, Err, Option, Result, sym, refl, ap, ◌∙◌, subst, arith, Some}
use Rattle.std.proofs.lemmas.Bool.{cond-false}
use Rattle.fault.specs.declared.Fault.{Fault}
use Rattle.device.specs.Disk.{Entry, Disk, blocks, entry_at, put, Event, Wrote}
use Rattle.device.specs.Disk.{outside, offline, done, lost}
use Rattle.device.specs.declared.Remains.TheVariants as remains
use Rattle.device.proofs.Disk.{entry_at_put, entry_at_put_other}
use Rattle.pairing.specs.Reservoir.{Reservoir}
use Rattle.journal.specs.Header.{header_of, pending_bytes}
use Rattle.journal.specs.Writes.{Ran, finished, goes_on, stops, landed, write_at, images_from, replay_writes}
use Rattle.journal.specs.declared.Write.{Write}
use Rattle.journal.specs.declared.headers.Header.TheVariants as header
use Rattle.journal.specs.declared.headers.Pending.{Pending}
use Rattle.journal.proofs.Writes.{Splits, within, across, ran_split, ran_other}
use Rattle.layout.specs.Layout.{Laid, content}
use Rattle.layout.specs.Reading.{is_block, bytes_of, block_fault, first_of}
use Rattle.layout.proofs.Faults.{or_else_none, block_reads}
use Rattle.plans.specs.Plans.{agrees, changes_to, pending_changes, ten_writes}
use Rattle.plans.specs.Recovery.{Rests, Stands, resting, Leaves}
use Rattle.plans.specs.Views.{viewed}
use Rattle.plans.proofs.Standing.{err_ok, held_beside, stands_offline, stands_old, stands_torn, Ahead, ahead_stands, replays}
use Rattle.plans.proofs.Viewing.{among, Four, four, laid_apart, place_by}

-- ---- which writes are on the disk

-- after ws, the writes of vs are counted on
landed_past :
    {ws : List Write} {d d' : Disk} {es : List Event} → Ran ws d (Ok tt) es d' → (n m : ℕ) (fs : List Event) → m ≡ length ws + n →
    landed (suc m) (es ++ fs) ≡ landed (suc n) fs
landed_past finished n m fs e = ap (λ k. landed (suc k) fs) (omega arith)
landed_past (goes_on w r) n zero fs e = absurd (omega arith)
landed_past (goes_on w r) n (suc m) fs e = landed_past r n m fs (omega arith)

-- no write after those of ws is on the disk
landed_short :
    {ws : List Write} {d d' : Disk} {x : Fault} {es : List Event} → Ran ws d (Err x) es d' → (m : ℕ) → length ws ≤ m →
    landed (suc m) es ≡ false
landed_short (goes_on w r) zero h = absurd (omega arith)
landed_short (goes_on w r) (suc m) h = landed_short r m (omega arith)
landed_short (stops (outside b)) m h = refl
landed_short (stops (offline b o)) m h = refl
landed_short (stops (lost l b o)) zero h = absurd (omega arith)
landed_short (stops (lost l b o)) (suc m) h = refl

-- ---- the after-images

-- the after-images of four targets with these bytes
pub data Imaged (bytes : ℕ → List ℕ) (d : Disk) : List ℕ → Type 0 where
  imaged :
      {t₀ t₁ t₂ t₃ : ℕ} → entry_at d 2 ≡ Some (bytes t₀) → entry_at d 3 ≡ Some (bytes t₁) →
      entry_at d 4 ≡ Some (bytes t₂) → entry_at d 5 ≡ Some (bytes t₃) → Imaged bytes d (t₀ ∷ t₁ ∷ t₂ ∷ t₃ ∷ [])

-- their writes
abbrev images : (ℕ → List ℕ) → List ℕ → List Write
images bytes ts = images_from 2 (map (λ t. write_at t (bytes t)) ts)

images_long : (bytes : ℕ → List ℕ) {ts : List ℕ} → Four ts → length (images bytes ts) ≡ 4
images_long bytes (four t₀ t₁ t₂ t₃ l₀ l₁ l₂ l₃) = refl

-- they change no other block
images_other :
    (bytes : ℕ → List ℕ) {ts : List ℕ} → Four ts → {d d' : Disk} {a : Result (Unit {0}) Fault} {es : List Event} →
    Ran (images bytes ts) d a es d' → (k : ℕ) → ((j : ℕ) → 2 ≤ j → j ≤ 5 → k ≢ j) → entry_at d' k ≡ entry_at d k
images_other bytes (four t₀ t₁ t₂ t₃ l₀ l₁ l₂ l₃) run k out =
    ran_other run k (
      out 2 (omega arith) (omega arith),
      (out 3 (omega arith) (omega arith), (out 4 (omega arith) (omega arith), (out 5 (omega arith) (omega arith), tt))),
    )

wrote_here : {d d' : Disk} {b : ℕ} {new : List ℕ} {es : List Event} → Wrote d b new (Ok tt) es d' → entry_at d' b ≡ Some new
wrote_here {d} {b = b} (done h o) = entry_at_put d b _ h

below : (a b : ℕ) → a < b → a ≢ b
below a b h e = omega arith

images_done :
    (bytes : ℕ → List ℕ) {ts : List ℕ} → Four ts → {d d' : Disk} {es : List Event} →
    Ran (images bytes ts) d (Ok tt) es d' → Imaged bytes d' ts
images_done bytes (four t₀ t₁ t₂ t₃ l₀ l₁ l₂ l₃) (goes_on w₀ (goes_on w₁ (goes_on w₂ (goes_on w₃ finished)))) =
    imaged
    (ran_other (goes_on w₁ (goes_on w₂ (goes_on w₃ finished))) 2
    (below 2 3 (omega arith), (below 2 4 (omega arith), (below 2 5 (omega arith), tt)))
    ∙ wrote_here w₀)
    (ran_other (goes_on w₂ (goes_on w₃ finished)) 3 (below 3 4 (omega arith), (below 3 5 (omega arith), tt)) ∙ wrote_here w₁)
    (ran_other (goes_on w₃ finished) 4 (below 4 5 (omega arith), tt) ∙ wrote_here w₂)
    (wrote_here w₃)

module _ {bytes : ℕ → List ℕ} where
  -- the header's block is none of theirs
  imaged_beside : {d : Disk} {ts : List ℕ} (e : Entry) → Imaged bytes d ts → Imaged bytes (put d 1 e) ts
  imaged_beside {d} e (imaged e₂ e₃ e₄ e₅) =
      imaged
      (entry_at_put_other d 1 2 e (λ z. omega arith) ∙ e₂)
      (entry_at_put_other d 1 3 e (λ z. omega arith) ∙ e₃)
      (entry_at_put_other d 1 4 e (λ z. omega arith) ∙ e₄)
      (entry_at_put_other d 1 5 e (λ z. omega arith) ∙ e₅)

  -- what is pending is what was to be written
  imaged_changes : {d : Disk} {ts : List ℕ} → Imaged bytes d ts → map (λ t. write_at t (bytes t)) ts ≡ pending_changes d 2 ts
  imaged_changes {d} (imaged {t₀} {t₁} {t₂} {t₃} e₂ e₃ e₄ e₅) = λ i.
      write_at t₀ (bytes_of (sym e₂ i)) ∷ write_at t₁ (bytes_of (sym e₃ i))
      ∷ write_at t₂ (bytes_of (sym e₄ i)) ∷ write_at t₃ (bytes_of (sym e₅ i)) ∷ []

  imaged_clean :
      {d : Disk} {ts : List ℕ} → Four ts → Imaged bytes d ts → ((t : ℕ) → Laid t → is_block (bytes t) ≡ true) →
      first_of (block_fault (entry_at d)) 2 4 ≡ None
  imaged_clean {d} (four t₀ t₁ t₂ t₃ l₀ l₁ l₂ l₃) (imaged e₂ e₃ e₄ e₅) are =
      or_else_none _ _ (block_reads (entry_at d) 2 (bytes t₀) e₂ (are t₀ l₀))
      (or_else_none _ _ (block_reads (entry_at d) 3 (bytes t₁) e₃ (are t₁ l₁))
      (or_else_none _ _ (block_reads (entry_at d) 4 (bytes t₂) e₄ (are t₂ l₂))
      (or_else_none _ _ (block_reads (entry_at d) 5 (bytes t₃) e₅ (are t₃ l₃)) refl)))

  imaged_view :
      {d : Disk} {ts : List ℕ} → Imaged bytes d ts → (b : ℕ) → (among b ts ≡ false → entry_at d b ≡ Some (bytes b)) →
      viewed d 2 ts b ≡ Some (bytes b)
  imaged_view {d} (imaged {t₀} {t₁} {t₂} {t₃} e₂ e₃ e₄ e₅) b own =
      place_by t₀ t₁ t₂ t₃ b (λ k. entry_at d k ≡ Some (bytes b))
      (λ e. e₂ ∙ ap (λ t. Some (bytes t)) e)
      (λ e. e₃ ∙ ap (λ t. Some (bytes t)) e)
      (λ e. e₄ ∙ ap (λ t. Some (bytes t)) e)
      (λ e. e₅ ∙ ap (λ t. Some (bytes t)) e)
      own

-- ---- the commit of the next reservoir

module _ {X : Type 0} (code : ℕ) (form : X → List ℕ) (reading : List ℕ → Option X) (r next : Reservoir X) (p : Pending)
    (targets : Four p.blocks) (reads : header_of (Some (pending_bytes p)) ≡ header.Pending p) (agree : agrees p next ≡ true)
    (are : (b : ℕ) → Laid b → is_block (content code form next b) ≡ true)
    (same : (b : ℕ) → Laid b → among b p.blocks ≡ false → content code form next b ≡ content code form r b) where
  -- the after-images leave the register at rest
  rests_kept :
      {d d' : Disk} {a : Result (Unit {0}) Fault} {es : List Event} → Rests code form reading d r →
      Ran (images (content code form next) p.blocks) d a es d' → Rests code form reading d' r
  rests_kept s run = record {
    free = ap header_of (images_other _ targets run 1 (λ j l m e. omega arith)) ∙ s.free;
    holds = λ b l. images_other _ targets run b (λ j m n. laid_apart b j l (omega arith) n) ∙ s.holds b l;
  }

  -- with the pending header the call is committed
  ahead :
      (d : Disk) → 1 < blocks d → Rests code form reading d r → Imaged (content code form next) d p.blocks →
      Ahead code form reading (put d 1 (Some (pending_bytes p))) p next
  ahead d b s i = record {
    header = ap header_of (entry_at_put d 1 _ b) ∙ reads;
    images = imaged_clean targets (imaged_beside _ i) are;
    holds = λ b l.
        imaged_view (imaged_beside _ i) b (λ out.
        held_beside code form reading d _ r s.holds b l ∙ ap Some (sym (same b l out)));
    agree = agree;
  }

  -- from the pending header on
  committing :
      {d d' : Disk} {a : Result (Unit {0}) Fault} {es : List Event} → Rests code form reading d r →
      Imaged (content code form next) d p.blocks →
      Ran (write_at 1 (pending_bytes p) ∷ replay_writes (changes_to code form next p.blocks)) d a es d' →
      Stands code form reading d' (cond (landed 1 es) next r) × (a ≡ Ok tt → Rests code form reading d' next × (landed 1 es ≡ true))
  committing {d} {d'} s i (goes_on {a = a} {es = es} (done b o) run) =
      let d₁ = put d 1 (Some (pending_bytes p)) in
      let after = replays code form reading targets (ahead d b s i)
      (subst (λ c. Ran (replay_writes c) d₁ a es d') (imaged_changes (imaged_beside _ i)) run) in
      (after.0, λ e. (after.1 e, refl))
  committing s i (stops (outside b)) = (resting s, λ e. absurd (err_ok e))
  committing s i (stops (offline b o)) = (resting s, λ e. absurd (err_ok e))
  committing {d} s i (stops (lost remains.Old b o)) = (stands_old code form reading d (resting s), λ e. absurd (err_ok e))
  committing {d} s i (stops (lost remains.New b o)) =
      (stands_offline code form reading _ (ahead_stands code form reading (ahead d b s i)), λ e. absurd (err_ok e))
  committing {d} s i (stops (lost remains.Unreadable b o)) = (stands_torn code form reading d r b s.holds, λ e. absurd (err_ok e))

  leaves_by :
      {d d' : Disk} {a : Result (Unit {0}) Fault} {es : List Event} → Rests code form reading d r →
      Splits (images (content code form next) p.blocks)
      (write_at 1 (pending_bytes p) ∷ replay_writes (changes_to code form next p.blocks)) d a es d' →
      Leaves code form reading es a d' next r
  leaves_by {d' = d'} {es = es} s (within run) =
      let long = images_long (content code form next) targets in
      let short : landed 5 es ≡ false = landed_short run 4 (omega (arith, long)) in
      record {
        stands = subst (Stands code form reading d') (sym (cond-false (landed 5 es) next r short)) (resting (rests_kept s run));
        rests = λ e. absurd (err_ok e);
      }
  leaves_by {d' = d'} s (across {es = es} {fs = fs} {gs = gs} run after joined) =
      let long = images_long (content code form next) targets in
      let past : landed 5 gs ≡ landed 1 fs = ap (landed 5) (sym joined) ∙ landed_past run 0 4 fs (omega (arith, long)) in
      let q = committing (rests_kept s run) (images_done _ targets run) after in
      record {
        stands = subst (λ t. Stands code form reading d' (cond t next r)) (sym past) q.0;
        rests = λ e. ((q.1 e).0, past ∙ (q.1 e).1);
      }

  pub leaves :
      {d d' : Disk} {a : Result (Unit {0}) Fault} {es : List Event} → Rests code form reading d r →
      Ran (ten_writes code form next p) d a es d' → Leaves code form reading es a d' next r
  leaves s run = leaves_by s (ran_split (images (content code form next) p.blocks) _ run)
