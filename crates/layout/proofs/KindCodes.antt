-- The codes of kinds.
-- Assumes nothing.
use Rattle.std.proofs.Common.{◌≡◌, ℕ, true, is_ok, Ok, Err, Result, refl, subst, arith}
use Rattle.std.proofs.lemmas.Bool.Decides.{nat_tests}
use Rattle.items.specs.Kinds.{Decodes}
use Rattle.items.specs.declared.item_kind.ItemKind.{ItemKind}
use Rattle.items.specs.declared.item_kind.ItemKind.TheVariants.{Label, WardBox}
use Rattle.items.specs.declared.item_kind.UnknownCode.{UnknownCode}
use Rattle.layout.specs.Reading.{known_kind}

-- a code names a kind, or no kind has it
pub known_is : (code : ℕ) (r : Result ItemKind UnknownCode) → Decodes code r → is_ok r ≡ known_kind code
known_is code (Ok Label) h = subst (λ n. true ≡ known_kind n) h refl
known_is code (Ok WardBox) h = subst (λ n. true ≡ known_kind n) h refl
known_is code (Err e) h =
    let one = h.1 Label in
    let two = h.1 WardBox in
    grind (arith, nat_tests)
