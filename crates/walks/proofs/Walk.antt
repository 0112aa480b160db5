-- The words in which a walk is written, from the logic and from this crate, so that a function's proof brings them in by one line.
-- Assumes nothing.
pub use mathlib.Core.Path.{◌≡◌, refl, sym, ap, subst, ◌∙◌}
pub use mathlib.Core.List.{List, [], ◌∷◌, ◌++◌, map}
pub use Prim.Native.Nat.{ℕ, suc, ◌+◌, ◌-◌, ◌*◌, ◌^◌, ◌<◌, ◌≤◌}
pub use native.Mathlib.Numerals.{add-one}
pub use native.Mathlib.Omega.{arith}
pub use lib.Dec.{lit<, ltb→lt, nltb→le}
pub use lib.ListN.{length, get_or, set}
pub use seplogic.Ra.Ura.{Ura}
pub use base.Fraction.{full_share}
pub use mir.Syntax.{w64}
pub use mir.Val.{Val, vint}
pub use base.Logic.{SProp, emp, id⊢}
pub use base.Fml.{Share}
pub use prog.Memory.{Memory}
pub use prog.Routine.{Routine}
pub use prog.Wp.{Heap, Tables}
pub use ghost.Atoms.{Atoms}
pub use contract.Lifetimes.{Lfts}
pub use contract.Monad.{Fun, fact_i}
pub use contract.Running.{tables}
unfoldable pub use contract.Running.{tables_of}
pub use types.Kit.{given, ‵, ◌⊛◌, Sq, runs, ◌$◌, !, move, split, use1, use2, rewrite}
pub use types.Run.{lit, unit_lit, stop, from, of_opd, bin, addr, and_then, no_more}
pub use types.Part.{agg}
pub use denote.Laws.{Is, shows}
pub use denote.Builtin.{u8, usize, bool, unit}
pub use denote.Slice.{slice_val, Room}
pub use denote.Index.{row}
pub use denote.Signature.{plain}
pub use denote.Triple.Entry.{Args}
pub use denote.Triple.Spec.{Meets, triple_of}
pub use denote.Triple.Table.{entered, cited}
pub use Rattle.walks.proofs.Locals.{Cell, room, holds, rooms, frame, env, get, field, sets, sets_last, forgets, takes-away, puts_back, leaves}
pub use Rattle.walks.proofs.Data.{number, truth, nothing}
pub use Rattle.walks.proofs.Elements.{reads_element, writes_element}
pub use Rattle.walks.proofs.Slices.{opened, looked-into, opens, shuts, looks, looked, shared, slice, view, reslices}
pub use Rattle.walks.proofs.Arrays.{opens_array, shuts_array, cuts, joins}
pub use Rattle.walks.proofs.Loops.{Loop, Turned, tests, turned, goes_on, next-turn, returned}
pub use Rattle.walks.proofs.Calls.{last, then}
pub use Rattle.walks.proofs.Callees.{calls-plain, calls_showing, calls_lending, calls_passing, calls_lending_passing, both-said}
pub use Rattle.walks.proofs.Proved.{SharedWalk, MutWalk, MutSharedWalk, shared_meets, mut_meets, mut_shared_meets, said-both}
