use Rattle.std.proofs.Common.{ℕ, ◌*◌, ◌/◌, ◌%◌, ◌^◌, get_or, rules}
use Rattle.roots.specs.Steps.{Stepped, Narrow, no_work}
use Rattle.roots.proofs.Sides.{from_fn-each}
use Rattle.roots.proofs.several.Works.stepped.Goals as goal

pub returns : goal.returns
returns c =
    let P : ℕ → Narrow → Type 0 = λ k x.
    let w = get_or c.args.self.0 k no_work in Stepped (get_or c.args.half k 0 / 2 ^ (2 * c.args.pair) % 4) w.root w.rest x.root x.rest in
    from_fn-each c.from_fn.ensures.items P (λ i y f' one. search rules) no_work
