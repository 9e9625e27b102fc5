-- Blocks that are read from their after-images, and what writing these to their targets leaves.
-- Assumes nothing.
use Rattle.std.proofs.Common.{◌≡◌, ℕ, ◌+◌, ◌<◌, ◌≤◌, min, Bool, true, false, cond, ◌||◌, eqb, ◌≢◌, List, [], ◌∷◌, length, Ok, Result, sym, refl, ap, ◌∙◌, inl, inr, arith, Some}
use Rattle.std.proofs.lemmas.Bool.{eqb-true, eqb-false, ne_eqb, or_from, or_parts, cond_both}
use Rattle.fault.specs.declared.Fault.{Fault}
use Rattle.device.specs.Disk.{Disk, entry_at, put, Event, Wrote}
use Rattle.device.specs.Disk.{done}
use Rattle.device.proofs.Disk.{wrote_other, entry_at_put}
use Rattle.journal.specs.Writes.{Ran, finished, goes_on, stops}
use Rattle.layout.specs.Layout.{Laid}
use Rattle.layout.specs.Reading.{bytes_of}
use Rattle.plans.specs.Plans.{pending_changes}
use Rattle.plans.specs.Views.{place_from}

-- whether b is one of the targets
abbrev pub among : ℕ → List ℕ → Bool
among b [] = false
among b (t ∷ ts) = eqb t b || among b ts

-- the four targets of a call, each a block that has a reservoir's bytes
pub data Four : List ℕ → Type 0 where
  four : (t₀ t₁ t₂ t₃ : ℕ) → Laid t₀ → Laid t₁ → Laid t₂ → Laid t₃ → Four (t₀ ∷ t₁ ∷ t₂ ∷ t₃ ∷ [])

-- blocks 1 to 5 have none
pub laid_apart : (t k : ℕ) → Laid t → 1 ≤ k → k ≤ 5 → t ≢ k
laid_apart t k (inl e) low high is = omega arith
laid_apart t k (inr e) low high is = omega arith

pub four_apart : {ts : List ℕ} → Four ts → (k : ℕ) → 1 ≤ k → k ≤ 5 → among k ts ≡ false
four_apart (four t₀ t₁ t₂ t₃ l₀ l₁ l₂ l₃) k low high =
    let ne : (t : ℕ) → Laid t → eqb t k ≡ false = (λ t l. ne_eqb t k (laid_apart t k l low high)) in
    or_from _ _ (ne t₀ l₀) (or_from _ _ (ne t₁ l₁) (or_from _ _ (ne t₂ l₂) (or_from _ _ (ne t₃ l₃) refl)))

-- what holds where each after-image of a block stands, and of a block that is no target at its own place, holds where it is read
pub place_by :
    (t₀ t₁ t₂ t₃ b : ℕ) (Q : ℕ → Type 0) → (t₀ ≡ b → Q 2) → (t₁ ≡ b → Q 3) → (t₂ ≡ b → Q 4) → (t₃ ≡ b → Q 5) →
    (among b (t₀ ∷ t₁ ∷ t₂ ∷ t₃ ∷ []) ≡ false → Q b) → Q (place_from b b 2 (t₀ ∷ t₁ ∷ t₂ ∷ t₃ ∷ []))
place_by t₀ t₁ t₂ t₃ b Q q₀ q₁ q₂ q₃ own =
    cond_both (eqb t₃ b) _ _ Q (λ e. q₃ (eqb-true t₃ b e)) (λ e₃.
    cond_both (eqb t₂ b) _ _ Q (λ e. q₂ (eqb-true t₂ b e)) (λ e₂.
    cond_both (eqb t₁ b) _ _ Q (λ e. q₁ (eqb-true t₁ b e)) (λ e₁.
    cond_both (eqb t₀ b) _ _ Q (λ e. q₀ (eqb-true t₀ b e)) (λ e₀.
    own (or_from _ _ e₀ (or_from _ _ e₁ (or_from _ _ e₂ (or_from _ _ e₃ refl))))))))

pub place_four :
    {ts : List ℕ} → Four ts → (Q : ℕ → Type 0) (b : ℕ) → ((k : ℕ) → 2 ≤ k → k ≤ 5 → Q k) → (among b ts ≡ false → Q b) →
    Q (place_from b b 2 ts)
place_four (four t₀ t₁ t₂ t₃ l₀ l₁ l₂ l₃) Q b image own =
    place_by t₀ t₁ t₂ t₃ b Q
    (λ e. image 2 (omega arith) (omega arith))
    (λ e. image 3 (omega arith) (omega arith))
    (λ e. image 4 (omega arith) (omega arith))
    (λ e. image 5 (omega arith) (omega arith))
    own

-- ---- the after-images, written to their targets

-- no other block changes
pub replay_other :
    (d₀ : Disk) (image : ℕ) (ts : List ℕ) {d d' : Disk} {a : Result (Unit {0}) Fault} {es : List Event} →
    Ran (pending_changes d₀ image ts) d a es d' →
    (k : ℕ) → among k ts ≡ false → entry_at d' k ≡ entry_at d k
replay_other d₀ image [] finished k h = refl
replay_other d₀ image (t ∷ ts) (goes_on w r) k h =
    let p = or_parts (eqb t k) (among k ts) h in
    replay_other d₀ (image + 1) ts r k p.1 ∙ wrote_other w k (λ e. eqb-false t k p.0 (sym e))
replay_other d₀ image (t ∷ ts) (stops w) k h = wrote_other w k (λ e. eqb-false t k (or_parts (eqb t k) (among k ts) h).0 (sym e))

-- one of them
step :
    (d₀ d d₁ : Disk) (t image b place : ℕ) (test : Bool) {es : List Event} → eqb t b ≡ test →
    Wrote d t (bytes_of (entry_at d₀ image)) (Ok tt) es d₁ →
    entry_at d₀ image ≡ Some (bytes_of (entry_at d₀ image)) → entry_at d b ≡ entry_at d₀ place →
    entry_at d₁ b ≡ entry_at d₀ (cond test image place)
step d₀ d d₁ t image b place true e (done h o) is same =
    let at : t ≡ b = eqb-true t b e in
    ap (entry_at (put d t (Some (bytes_of (entry_at d₀ image))))) (sym at) ∙ entry_at_put d t _ h ∙ sym is
step d₀ d d₁ t image b place false e w is same = wrote_other w b (λ at. eqb-false t b e (sym at)) ∙ same

-- once all are written, each block holds what was read for it
pub replay_done :
    (d₀ : Disk) (image : ℕ) (ts : List ℕ) {d d' : Disk} {es : List Event} → Ran (pending_changes d₀ image ts) d (Ok tt) es d' →
    image + length ts ≤ 65535 →
    ((k : ℕ) → image ≤ k → k < image + length ts → entry_at d₀ k ≡ Some (bytes_of (entry_at d₀ k))) →
    (b place : ℕ) → entry_at d b ≡ entry_at d₀ place → entry_at d' b ≡ entry_at d₀ (place_from b place image ts)
replay_done d₀ image [] finished low is b place same = same
replay_done d₀ image (t ∷ ts) {d} (goes_on {d₁ = d₁} w r) low is b place same =
    let next : image + 1 ≡ min (image + 1) 65535 = omega arith in
    let here = step d₀ d d₁ t image b place (eqb t b) refl w (is image (omega arith) (omega arith)) same in
    replay_done d₀ (image + 1) ts r (omega arith) (λ k l h. is k (omega arith) (omega arith)) b (cond (eqb t b) image place) here
    ∙ ap (λ k. entry_at d₀ (place_from b (cond (eqb t b) image place) k ts)) next
