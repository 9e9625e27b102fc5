-- Lemmas on the blocks of a view.
use Rattle.std.proofs.Common.{◌≡◌, ℕ, ◌<◌, true, false, List, [], Ok, is_ok, Result, sym, ap, ◌∙◌, subst, Some}
use Rattle.fault.specs.declared.Damage.TheVariants as damage
use Rattle.fault.specs.declared.Fault.{Fault}
use Rattle.device.specs.Disk.{Entry, Disk, reading}
use Rattle.device.specs.declared.DeviceError.{DeviceError}
use Rattle.device.proofs.Disk.{reading_online}
use Rattle.layout.specs.Reading.{unless_fault, bytes_of, is_block, readable, unless}
use Rattle.plans.specs.Views.{place_from, viewed}
use Rattle.reader.specs.Reads.{Steady, BlockRead}

-- what holds of a plain view holds of its device
pub plain_is :
    (P : Disk → ℕ → List ℕ → Type 0) {d d' : Disk} {first : ℕ} {targets : List ℕ} → d' ≡ d → (first ≡ 0) × (targets ≡ []) →
    P d' first targets → P d 0 []
plain_is P {d} {d'} {first} {targets} device own h =
    subst (λ d. P d 0 []) device (subst (λ f. P d' f []) own.0 (subst (λ ts. P d' first ts) own.1 h))

-- a block that was read
pub view_reads :
    (d : Disk) (first : ℕ) (targets : List ℕ) (b p : ℕ) → p ≡ place_from b b first targets → Steady d first targets → b < 78 →
    reading d p ≡ Ok (viewed d first targets b)
view_reads d first targets b p e s h =
    ap (reading d) e ∙ reading_online d (place_from b b first targets) (s.inside b h) s.online

pub view_answers :
    (d : Disk) (first : ℕ) (targets : List ℕ) (b p : ℕ) (e : Entry) (r : Result (List ℕ) Fault) → p ≡ place_from b b first targets →
    Ok e ≡ reading d p → r ≡ unless_fault (unless (readable e) b damage.Unreadable) (bytes_of e) → BlockRead d first targets b r
view_answers d first targets b p e r at got is s h =
    is ∙ ap (λ x. unless_fault (unless (readable x) b damage.Unreadable) (bytes_of x)) (ok_is e _ (got ∙ view_reads d first targets b p at s h))
  where
    ok_is : (x y : Entry) → ◌≡◌ {A = Result Entry DeviceError} (Ok x) (Ok y) → x ≡ y
    ok_is x y q = cc

pub view_fails :
    (d : Disk) (first : ℕ) (targets : List ℕ) (b p : ℕ) (r : Result (List ℕ) Fault) → p ≡ place_from b b first targets →
    is_ok (reading d p) ≡ false → BlockRead d first targets b r
view_fails d first targets b p r at lost s h = absurd (not_both (sym (ap is_ok (view_reads d first targets b p at s h)) ∙ lost))
  where
    not_both : true ≡ false → ⊥
    not_both q = cc

pub whole_bytes :
    (e : Entry) (xs : List ℕ) (b : ℕ) → e ≡ Some xs → is_block xs ≡ true →
    ◌≡◌ {A = Result (List ℕ) Fault} (Ok xs) (unless_fault (unless (readable e) b damage.Unreadable) (bytes_of e))
whole_bytes e xs b is h =
    sym (ap (λ t. unless_fault (unless t b damage.Unreadable) xs) h)
    ∙ sym (ap (λ x. unless_fault (unless (readable x) b damage.Unreadable) (bytes_of x)) is)
