use Rattle.simplify_ordering.proofs.ImplodeLaws.{implode_law}
use Rattle.simplify_ordering.proofs.implode.append_implode.Goals as goal

pub returns-clause-appended : goal.returns-clause-appended
returns-clause-appended c = implode_law c.args.arena.now c.args.q c.requires.room c.requires.earlier _ c.store_implode.ensures
