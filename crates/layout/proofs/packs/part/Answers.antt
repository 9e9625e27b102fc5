use Rattle.std.proofs.Common.{◌≡◌, ℕ, List, get_or, replicate, ap, ◌∙◌, ⊎_elim, arith}
use Rattle.std.proofs.lemmas.Bool.{cases_lt}
use Rattle.octets.proofs.Under.{under_from}
use Rattle.std.specs.Option.{unwrap_or}
use Rattle.std.specs.Simd.{first_chunks}
use Rattle.words.proofs.Chunks.{chunk_at, chunk_past}
use Rattle.layout.proofs.SetLaws.{zeros_past}
use Rattle.layout.proofs.StockLaws.{bytes_exact}
use Rattle.layout.proofs.packs.part.Goals as goal

pub returns : goal.returns
returns c =
    let xs = c.args.bytes.now in
    let none : List ℕ = replicate 512 0 in
    let found : c.unwrap_or.result ≡ get_or c.as_chunks.result.0.now c.from.result none =
    c.unwrap_or.ensures ∙ ap (λ o. unwrap_or o none) c.copied.ensures ∙ c.get.ensures.lookup.4 (omega arith) none in
    let at : c.unwrap_or.result ≡ get_or (first_chunks 512 8 xs) c.args.j none =
    found ∙ ap (λ bs. get_or bs c.from.result none) c.as_chunks.ensures.front
    ∙ ap (λ k. get_or (first_chunks 512 k xs) c.from.result none) {y = 8} (omega (arith, c.told-bytes))
    ∙ ap (λ i. get_or (first_chunks 512 8 xs) i none) c.from.ensures in
    ⊎_elim
    (λ below. at ∙ chunk_at 512 xs none 8 c.args.j below ∙ bytes_exact xs c.told-bytes (under_from xs c.fits-bytes) c.args.j below)
    (λ past. at ∙ chunk_past 512 xs none 8 c.args.j past ∙ zeros_past xs c.args.j c.fits-bytes (omega (arith, c.told-bytes)))
    (cases_lt c.args.j 8)
