-- To compute: `unfolding computing` opens every definition from bytes to bytes. A proof opens only those that it means.
use Rattle.plan.specs.Lists.{all?, any?, select, sum, concat_map, numbered, same}
use Rattle.plan.specs.Sheet.{◌then◌, refuse◌when◌else◌, parts, value, number, numbers, expr_table, step_table, expr_of, in_expr_table, expr_fits, step_of, in_step_table, step_fits, expr_count, over_limits, with_expr, with_step, lettered, line_of, read_line, read_lines, read}
use Rattle.plan.specs.Faults.{children_earlier, inputs_earlier, exprs_there, references_right, exprs_named, named, cache_ids, reach, evaluated, checked, lines, named_right, id_right, field_right, passes, first_fault}
use Rattle.plan.specs.Graph.{sinks, pushes, pop, popped, first_met, all_steps, key, hits, opens, following, edges_into, grow, build_ir_traversal_graph, graph, update_cache_nodes}
use Rattle.plan.specs.Orders.{add}
use Rattle.plan.specs.Look.{before, check_return_cached, is_replaced, after, look_along, look_again, look_along_children, look_ended, look_whole, look_at, look, simplify_projected_exprs}
use Rattle.plan.specs.Visit.{arm, out_edge, in_edge, ins_unordered, outs_unordered, around, implode, imploded, with_implodes, allow_deordering_top, looks_of, unlink_node, goes, looked_in, settle, simplify_ir_node_orders, refusal_number, ruling_of, settled_by}
use Rattle.plan.specs.Walks.{begin, down, up, updated, simplify_and_fetch_orderings, trace_by, walk_by}
use Rattle.plan.specs.Text.{digits, line, expr_line, step_line, edge_line, tally_line, exprs_block, steps_block, edges_block, printed, blocks, joined, end_of}
use Rattle.plan.specs.Finished.{run, finished, finished_answer, called, finish}

unfoldable pub computing : Unit {0}
unfolding all? any? select sum concat_map numbered same ◌then◌ refuse◌when◌else◌ parts value number numbers expr_table step_table expr_of in_expr_table expr_fits step_of in_step_table step_fits expr_count over_limits with_expr with_step lettered line_of read_line read_lines read children_earlier inputs_earlier exprs_there references_right exprs_named named cache_ids reach evaluated checked sinks pushes pop popped all_steps first_met lines key hits opens following edges_into grow build_ir_traversal_graph graph update_cache_nodes add before check_return_cached is_replaced after look_along look_again look_along_children look_ended look_whole look_at look simplify_projected_exprs arm out_edge in_edge ins_unordered outs_unordered around implode imploded with_implodes allow_deordering_top looks_of unlink_node goes looked_in settle simplify_ir_node_orders walk_by begin down up updated simplify_and_fetch_orderings trace_by digits line expr_line step_line edge_line tally_line exprs_block steps_block edges_block printed run finished finished_answer called finish named_right id_right field_right passes first_fault blocks joined end_of refusal_number ruling_of settled_by
computing = tt
