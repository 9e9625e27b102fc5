-- What was read of two registers decides whether they have the same packs.
-- Assumes nothing.
use Rattle.std.proofs.Common.{◌≡◌, ℕ, zero, suc, ◌≤◌, Bool, true, false, not, ◌&&◌, eqb, ltb, List, Ok, Err, is_ok, Decides, IsErrAnd, MatchResult, Option, Result, sym, refl, ap, ◌∙◌, subst, arith}
use Rattle.std.proofs.lemmas.Bool.Decides.{Decides-like}
use Rattle.std.proofs.lemmas.Result.{err_from_is_err_and}
use Rattle.std.proofs.lemmas.Bool.{ne_eqb, lt-ltb, ltb-true}
use Rattle.fault.specs.Refusals.{offline, too_few_blocks}
use Rattle.fault.specs.declared.Fault.{Fault}
use Rattle.device.specs.Disk.{Disk, blocks, entry_at}
use Rattle.pairing.specs.Reservoir.{Reservoir}
use Rattle.pairing.specs.Rules.{Lawful, occurs}
use Rattle.journal.specs.Header.{header_of, free_or_refused}
use Rattle.layout.specs.Laws.{ReadsExactly}
use Rattle.layout.specs.Reading.{decode}
use Rattle.plans.specs.Plans.{at_rest, and_then, refused_if}
use Rattle.reader.specs.Reads.{Finds, ReadAs}
use Rattle.reader.specs.declared.Found.{Found}
use Rattle.register.specs.declared.comparing.SideFault.{SideFault}
use Rattle.register.specs.declared.comparing.SideFault.TheVariants.{Left, Right}
use Rattle.register.specs.Same.{SamePacks, SameFound, Compared, refused_left, refused_right}

-- ---- a register at rest is read off its blocks

refused_ok : {A : Type 0} (test : Bool) (f : Fault) (x : Result A Fault) {r : A} → refused_if test f x ≡ Ok r → x ≡ Ok r
refused_ok true f x e = cc
refused_ok false f x e = e

then_ok :
    {A : Type 0} (h : Result (Unit {0}) Fault) (x : Result A Fault) {r : A} → and_then h (λ _. x) ≡ Ok r → x ≡ Ok r
then_ok (Ok u) x e = e
then_ok (Err f) x e = cc

module _ {X : Type 0} (code : ℕ) (reading : List ℕ → Option X) (d : Disk) where
  pub rest_decodes : {r : Reservoir X} → at_rest code reading d ≡ Ok r → decode code reading (entry_at d) ≡ Ok r
  unfolding at_rest
  rest_decodes e =
      then_ok (free_or_refused (header_of (entry_at d 1))) _
      (refused_ok (not d.online) (offline 1) _ (refused_ok (ltb (blocks d) 78) (too_few_blocks (blocks d)) _ e))

  pub rest_lawful : (form : X → List ℕ) → ReadsExactly code form reading → {r : Reservoir X} → at_rest code reading d ≡ Ok r → Lawful r
  rest_lawful form exact {r} e = (exact (entry_at d) r (rest_decodes e)).0.lawful

-- ---- a number is sampled, or not: in two reservoirs with the same stock

none_is_not_some : (m : ℕ) → eqb m 0 ≡ not (ltb 0 m)
none_is_not_some zero = refl
none_is_not_some (suc m) = ne_eqb (suc m) 0 (λ e. omega arith) ∙ sym (ap not (lt-ltb 0 (suc m) (omega arith)))

alike :
    (s t x y : Bool) → (x ≡ true → s ≡ true) → (y ≡ true → t ≡ true) → s ≡ t → (s && not x) ≡ (t && not y) → x ≡ y
alike s t true true h k e u = refl
alike s t false false h k e u = refl
alike true true true false h k e u = sym u
alike true false true false h k e u = e
alike false t true false h k e u = sym (h refl)
alike true true false true h k e u = sym u
alike false true false true h k e u = e
alike s false false true h k e u = k refl

module _ (s t : Bool) (m n : ℕ) where
  sampled_alike : (1 ≤ m → s ≡ true) → (1 ≤ n → t ≡ true) → s ≡ t → (s && eqb m 0) ≡ (t && eqb n 0) → ltb 0 m ≡ ltb 0 n
  sampled_alike h k e u =
      alike s t (ltb 0 m) (ltb 0 n) (λ i. h (ltb-true 0 m i)) (λ i. k (ltb-true 0 n i)) e
      (ap (◌&&◌ s) (sym (none_is_not_some m)) ∙ u ∙ ap (◌&&◌ t) (none_is_not_some n))

  unsampled_alike : s ≡ t → ltb 0 m ≡ ltb 0 n → (s && eqb m 0) ≡ (t && eqb n 0)
  unsampled_alike e u =
      ap (◌&&◌ s) (none_is_not_some m) ∙ (λ i. e i && not (u i)) ∙ ap (◌&&◌ t) (sym (none_is_not_some n))

module _ {X : Type 0} (f g : Found) {a b : Reservoir X} (finds : Finds f a) (other : Finds g b) where
  same_found : SamePacks a b → SameFound f g
  same_found h = (
    λ p. finds.stock p ∙ (h p).0 ∙ sym (other.stock p),
    λ p.
        finds.unsampled p
        ∙ unsampled_alike (a.stock p) (b.stock p) (occurs p a.slots) (occurs p b.slots) (h p).0 (h p).1
        ∙ sym (other.unsampled p),
  )

  module _ (lawful : Lawful a) (lawful' : Lawful b) where
    same_packs : SameFound f g → SamePacks a b
    same_packs h p =
        let stock : a.stock p ≡ b.stock p = sym (finds.stock p) ∙ h.0 p ∙ other.stock p in (
          stock,
          sampled_alike
              (a.stock p)
              (b.stock p)
              (occurs p a.slots)
              (occurs p b.slots)
              (lawful.stocked p)
              (lawful'.stocked p)
              stock
              (sym (finds.unsampled p) ∙ h.1 p ∙ other.unsampled p),
        )

    pub decides_packs : (t : Bool) → Decides t (SameFound f g) → Decides t (SamePacks a b)
    decides_packs t h = Decides-like t same_packs same_found h

-- ---- the answers: what was read, with the side told of a refusal

module _ {X : Type 0} (side : Fault → SideFault) (l : Result (Reservoir X) Fault) (r : Result Found Fault) (m : Result Found SideFault)
    (read : ReadAs l r) (told : MatchResult r (λ x. m ≡ Ok x) (λ f. IsErrAnd m (λ e. e ≡ side f))) where
  pub side_read : (x : Found) → m ≡ Ok x → (s : Reservoir X) × (l ≡ Ok s) × Finds x s
  side_read x is = go r read told
    where
      go : (r : Result Found Fault) → ReadAs l r → MatchResult r (λ x. m ≡ Ok x) (λ f. IsErrAnd m (λ e. e ≡ side f)) → (s : Reservoir X) × (l ≡ Ok s) × Finds x s
      go (Ok y) read told = subst (λ z. ReadAs l (Ok z)) (let same : y ≡ x = let e = sym told ∙ is in cc in same) read
      go (Err f) read told = absurd (subst (λ m. IsErrAnd m (λ e. e ≡ side f)) is told)

  pub side_refused : (e : SideFault) → m ≡ Err e → (f : Fault) × (l ≡ Err f) × (e ≡ side f)
  side_refused e is = go r read told
    where
      go : (r : Result Found Fault) → ReadAs l r → MatchResult r (λ x. m ≡ Ok x) (λ f. IsErrAnd m (λ e. e ≡ side f)) → (f : Fault) × (l ≡ Err f) × (e ≡ side f)
      go (Ok y) read told = absurd (let z : true ≡ false = sym (ap is_ok told) ∙ ap is_ok is in cc)
      go (Err f) read told = (f, read, subst (λ m. IsErrAnd m (λ e. e ≡ side f)) is told)

module _ {X : Type 0} {l r : Result (Reservoir X) Fault} {a : Result Bool SideFault} {e : SideFault} where
  pub refused_left_lem : IsErrAnd a (λ x. x ≡ e) → (f : Fault) × (l ≡ Err f) × (e ≡ Left f) → Compared l r a
  refused_left_lem at h = let p = err_from_is_err_and a at in subst (Compared l r) (sym (p.1 ∙ ap Err (p.2 ∙ h.2))) (refused_left h.1)

  pub refused_right_lem :
      {x : Reservoir X} → IsErrAnd a (λ x. x ≡ e) → l ≡ Ok x → (f : Fault) × (r ≡ Err f) × (e ≡ Right f) → Compared l r a
  refused_right_lem at is h = let p = err_from_is_err_and a at in subst (Compared l r) (sym (p.1 ∙ ap Err (p.2 ∙ h.2))) (refused_right is h.1)
