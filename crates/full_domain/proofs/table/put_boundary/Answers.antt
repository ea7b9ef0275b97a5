use mathlib.Core.Path.{refl}
use native.Mathlib.Omega.{arith}
use Rattle.surfaces.specs.declared.steps.Axis.TheVariants.{U, «V»}
use Rattle.full_domain.proofs.WholeRows.{sides_ready, boundary_put}
use Rattle.full_domain.proofs.boundary.Sides.{few}
use Rattle.full_domain.proofs.table.put_boundary.Goals as goal

pub overflow_add-su : goal.overflow_add-su
overflow_add-su c = omega (arith, c.requires.0, few U c.args.patch.surface c.args.patch.options)

pub overflow_add-sv : goal.overflow_add-sv
overflow_add-sv c = omega (arith, c.requires.1, few «V» c.args.patch.surface c.args.patch.options)

pub put_sides-requires : goal.put_sides-requires
put_sides-requires c = sides_ready c.args.patch.surface c.args.patch.options _ _ c.requires.0 c.requires.1 _ _ _ _ _ _ refl refl
    c.write_rungs.ensures.out_after c.write_rungs-2.ensures.out_after c.part.ensures c.part-2.ensures

pub returns : goal.returns
returns c = boundary_put c.args.patch.surface c.args.patch.options _ _ c.requires.0 c.requires.1 _ _ _ _ _ _ refl refl
    c.write_rungs.ensures.out_after c.write_rungs-2.ensures.out_after c.part.ensures c.part-2.ensures _ _ _ c.put_sides.ensures
