use Rattle.std.proofs.Common.{arith}
use Rattle.session.proofs.Storing.{stored_to_list, is_listed}
use Rattle.session.proofs.paints.list_paints.Goals as goal

pub overflow_add-end : goal.overflow_add-end
overflow_add-end c = let s = stored_to_list _ _ _ _ _ _ c.in_ok-steps.ensures c.in_ok-used.ensures in omega (arith, s.room)

pub overflow_add-end-2 : goal.overflow_add-end-2
overflow_add-end-2 c = let s = stored_to_list _ _ _ _ _ _ c.in_ok-steps.ensures c.in_ok-used.ensures in omega (arith, s.room)

pub slice_bounds-list_stored-end : goal.slice_bounds-list_stored-end
slice_bounds-list_stored-end c = let s = stored_to_list _ _ _ _ _ _ c.in_ok-steps.ensures c.in_ok-used.ensures in omega (arith, s.room, c.store_tokens.auto.words)

pub returns : goal.returns
returns c =
    let s = stored_to_list _ _ _ _ _ _ c.in_ok-steps.ensures c.in_ok-used.ensures in
    let e = c.list_stored.ensures in
    is_listed s _ _ _ _ _ (omega arith) c.store_tokens.auto.words e.value e.words e.bytes
