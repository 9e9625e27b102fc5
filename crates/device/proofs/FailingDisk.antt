-- The failing device's disk, by its entries.
use Rattle.std.proofs.Common.{◌≡◌, ℕ, zero, suc, ◌<◌, min, Bool, true, false, List, [], ◌∷◌, length, get_or, take, set, Ok, Err, sym, refl, ap, ◌∙◌, subst, arith, Some, None}
use Rattle.std.proofs.lemmas.List.{length-take, get_or-take, get_or_default}
use Rattle.device.specs.declared.DeviceError.TheVariants.{Offline}
use Rattle.device.specs.declared.Remains.{Remains}
use Rattle.device.specs.Disk.{Entry, blocks, entry_at, put, turned, left_by, Wrote, done, lost, write_done, write_lost}
use Rattle.device.specs.FailingDisk.{failing_disk, event_of}
use Rattle.device.proofs.Disk.{turned_same}

take_set : (n : ℕ) (es : List Entry) (i : ℕ) (x : Entry) → take n (set es i x) ≡ set (take n es) i x
take_set zero es i x = refl
take_set (suc n) [] i x = refl
take_set (suc n) (e ∷ es) zero x = refl
take_set (suc n) (e ∷ es) (suc i) x = ap (λ rest. e ∷ rest) (take_set n es i x)

pub online_failing : (es : List Entry) (o : Bool) → (failing_disk es o).online ≡ o
unfolding failing_disk
online_failing es o = refl

pub blocks_failing : (es : List Entry) (o : Bool) → blocks (failing_disk es o) ≡ min (length es) 65535
unfolding failing_disk
blocks_failing es o = omega (arith, length-take 65535 es)

entry_at_below : (es : List Entry) (o : Bool) (b : ℕ) → b < 65535 → entry_at (failing_disk es o) b ≡ get_or es b None
unfolding failing_disk
entry_at_below es o b h = get_or-take 65535 es b None h

pub entry_at_failing : (es : List Entry) (o : Bool) (b : ℕ) → b < blocks (failing_disk es o) → entry_at (failing_disk es o) b ≡ get_or es b None
entry_at_failing es o b h = entry_at_below es o b (omega (arith, blocks_failing es o))

pub failing_put : (es : List Entry) (o p : Bool) (b : ℕ) (x : Entry) → failing_disk (set es b x) p ≡ turned (put (failing_disk es o) b x) p
unfolding failing_disk
failing_put es o p b x = λ i. record { entries = take_set 65535 es b x i; online = p }

-- ---- its writes

event_of_some : (good : ℕ) (m : Remains) → 0 < good → event_of good m ≡ write_done
event_of_some zero m h = absurd (omega arith)
event_of_some (suc n) m h = refl

module _ (es : List Entry) (o : Bool) (b : ℕ) (new : List ℕ) (m : Remains) (h : b < blocks (failing_disk es o)) (on : o ≡ true) where
  pub failing_done :
      (good : ℕ) → 0 < good → Wrote (failing_disk es o) b new (Ok tt) (event_of good m ∷ []) (failing_disk (set es b (Some new)) o)
  failing_done good some =
      let d = failing_disk es o in
      let w : Wrote d b new (Ok tt) (write_done ∷ []) (put d b (Some new)) = done h (online_failing es o ∙ on) in
      subst
      (λ e. Wrote d b new (Ok tt) (e ∷ []) (failing_disk (set es b (Some new)) o))
      (sym (event_of_some good m some))
      (subst
      (λ x. Wrote d b new (Ok tt) (write_done ∷ []) x)
      (sym (failing_put es o o b (Some new) ∙ turned_same (put d b (Some new)) o (online_failing es o)))
      w)

  -- x is what the device puts into the block
  pub failing_lost :
      (good : ℕ) (e x : Entry) → good ≡ 0 → x ≡ left_by m (get_or es b e) new →
      Wrote (failing_disk es o) b new (Err Offline) (event_of good m ∷ []) (failing_disk (set es b x) false)
  failing_lost good e x none q =
      let d = failing_disk es o in
      let w : Wrote d b new (Err Offline) (write_lost m ∷ []) (turned (put d b (left_by m (entry_at d b) new)) false) =
      lost m h (online_failing es o ∙ on) in
      let within : b < length es = omega (arith, blocks_failing es o) in
      let left : x ≡ left_by m (entry_at d b) new =
      q ∙ ap (λ y. left_by m y new) (get_or_default es b e None within ∙ sym (entry_at_failing es o b h)) in
      subst
      (λ n. Wrote d b new (Err Offline) (event_of n m ∷ []) (failing_disk (set es b x) false))
      (sym none)
      (subst
      (λ y. Wrote d b new (Err Offline) (write_lost m ∷ []) y)
      (sym (failing_put es o false b x ∙ ap (λ y. turned (put d b y) false) left))
      w)

-- ---- bringing it online

pub failing_turned : (es : List Entry) (o p : Bool) → failing_disk es p ≡ turned (failing_disk es o) p
unfolding failing_disk
failing_turned es o p = refl
