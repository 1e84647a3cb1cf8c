use Rattle.std.proofs.Common.{refl}
use Rattle.roots.specs.Root.{root, root_in}
use Rattle.surface.proofs.side_by_side.Goals as goal

-- no rise has no root
pub new-requires : goal.new-requires
unfolding root root_in
new-requires c = record { is = λ h. refl }
