-- The keys in the code are those of the definition, and none is longer than the longest. Assumes nothing.
use borrow.Author.Rules.{rules}
use Prim.Native.Nat.{ℕ, ◌-◌, ◌≤◌}
use mathlib.Core.Path.{◌≡◌, refl, sym, ap, ◌∙◌}
use mathlib.Core.List.{List, [], ◌∷◌, ◌++◌}
use native.Mathlib.Omega.{arith}
use lib.ListN.{length, take, drop, length-drop}
use lib.Seq.{take_all}
use Rattle.std.proofs.Common.{Bor}
use Rattle.std.proofs.lemmas.List.{drop-map}
use Rattle.std.specs.Prelude.{map}
use Rattle.text.specs.Bytes.{bytes}
use Rattle.document.specs.Rules.{Every}
use Rattle.formulas.specs.Items.{shuttle, heats}
use Rattle.formulas.specs.Report.{lines, keys, heat_keys, line_count}
use Rattle.report.specs.Lengths.{key_most}

abbrev pub texts : List (Bor (List ℕ)) → List (List ℕ)
texts ks = map (λ k. k.now) ks

-- the keys from one on
pub keys-from : (first : ℕ) (bs : List (Bor (List ℕ))) (ks : List (List ℕ)) (n : ℕ) → length bs ≤ n → texts bs ≡ ks →
    texts (take (n - first) (drop first bs)) ≡ drop first ks
keys-from first bs ks n h e =
    ap texts (take_all (n - first) (drop first bs) (omega (arith, length-drop first bs)))
    ∙ sym (drop-map (λ (k : Bor (List ℕ)). k.now) first bs)
    ∙ ap (drop first) e

pub keys-short : Every (λ k. length k ≤ key_most) (keys shuttle)
unfolding keys lines heats
keys-short = search rules

-- a key for each line
pub keys-count : length (keys shuttle) ≡ line_count shuttle
unfolding keys lines heats
keys-count = refl

-- behind the firing's are those of the heats
pub heat-keys : drop 1 (keys shuttle) ≡ heat_keys shuttle ++ (bytes "eff1" ∷ bytes "eff2" ∷ [])
unfolding keys lines heats heat_keys
heat-keys = refl
