-- The layout of an empty reservoir: a head with M, and zeros.
-- Assumes nothing.
use Rattle.std.proofs.Common.{◌≡◌, ℕ, zero, suc, ◌+◌, ◌-◌, ◌*◌, ◌≤◌, Bool, false, ltb, List, [], ◌∷◌, ◌++◌, map, sym, refl, ap, ◌∙◌, mul-zero, mul-suc, arith}
use lib.ListN.{replicate-append-replicate}
use Rattle.std.specs.List.{range_with_len}
use Rattle.std.proofs.lemmas.Bool.{cond-false, cond_both, ne_eqb}
use Rattle.octets.specs.Zeros.{zeros}
use Rattle.pairing.specs.Ranges.{no_counts}
use Rattle.pairing.specs.Reservoir.{empty}
use Rattle.layout.specs.Layout.{head_of, packed, stock_byte, stock_block, joined, slot_block, content}

abbrev none : ℕ → Bool
none p = false

packed_none : (p n : ℕ) → packed none p n ≡ 0
packed_none p zero = refl
packed_none p (suc n) = let later = packed_none (p + 1) n in omega (arith, later)

bytes_none : (a n : ℕ) → map (stock_byte none) (range_with_len a n) ≡ zeros n
bytes_none a zero = refl
bytes_none a (suc n) = λ i. packed_none (8 * a) 8 i ∷ bytes_none (a + 1) n i

stock_none : (j : ℕ) → stock_block none j ≡ zeros 512
unfolding stock_block
stock_none j = bytes_none (512 * j) 512

zeros_joined : (w i n : ℕ) → joined (λ k. zeros w) i n ≡ zeros (w * n)
zeros_joined w i zero = ap zeros (sym (mul-zero w))
zeros_joined w i (suc n) =
    ap (λ l. zeros w ++ l) (zeros_joined w (i + 1) n) ∙ replicate-append-replicate w (w * n) 0 ∙ ap zeros (omega (arith, mul-suc w n))

module _ {X : Type 0} (form : X → List ℕ) where
  slots_none : (j : ℕ) → slot_block form [] j ≡ zeros 512
  unfolding slot_block
  slots_none j = zeros_joined 64 (8 * j) 8

  module _ (code m : ℕ) where
    pub empty_head : content code form (empty m) 0 ≡ head_of code (no_counts m)
    unfolding content
    empty_head = refl

    pub empty_rest : (b : ℕ) → 1 ≤ b → content code form (empty m) b ≡ zeros 512
    unfolding content
    empty_rest b h =
        cond-false _ _ _ (ne_eqb b 0 (λ e. omega arith))
        ∙ cond_both (ltb b 14) _ _ (λ x. x ≡ zeros 512) (λ _. stock_none (b - 6)) (λ _. slots_none (b - 14))
