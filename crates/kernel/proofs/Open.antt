-- Every definition of this crate's specs/ that computing an example unfolds, under one name.
use Rattle.kernel.specs.File.{record_of, numbers, form, side_of, on, only, step_of, index, array, operator, whole_steps, loop_of, sayings, statement}
use Rattle.kernel.specs.Reading.{count, records, section, sections, zeros, array_fits, arrays_fit, table, holds, has_pass, statement_fits, open_loops, all_passes, opened, after_else, after_end, names, after_op, after, closed, statements_fit, form_fits, rule_fits, rules_fit, read_file}
use Rattle.kernel.specs.Trees.{in_front, blocks, tree_at, tree}
use Rattle.kernel.specs.Machine.{word, get, put, place, advance, cell, keep, result, cell_number, perform, step, choose, repeat, run}
use Rattle.kernel.specs.Memory.{before, total, listed, cells, laid_out, placed, put_back, moved, ran, layout, start, array_ran, stream_ran, on_areas, array_run, stream_run, lay_out, putting_back, afterwards}
use Rattle.kernel.specs.Ledger.{fresh, position, holding, next_index, passed, hold, read_step, write_step, fill_step, move_step, each_held, each, holds_just, same_positions, row_true, rows_true, kept, kept_all, merged}
use Rattle.kernel.specs.Derivation.{beginning, loops, next_rule, next_array, next_stream, went, row_count, hold_rows, row_held, stated, rule, buffer}
use Rattle.kernel.specs.Check.{codes, same_p, same_pq, same_pqk, identical, is_buffer, something, below_count, in_order, rows_fit, fits, at_else, at_end, effect, follow, at, take_rule, no_block, all_counted, finish, walk, check_kernel}
use Rattle.kernel.specs.Answers.{checked, checked_file, check, fault_numbers, refusal_numbers, check_numbers, ending_numbers, decimal, spaced, line, printed, shown}
use Rattle.numbers.proofs.Open.{numbers_open}
use Rattle.forms.proofs.Open.{forms_open}

unfoldable pub kernel_open : Unit {0}
unfolding numbers_open forms_open record_of numbers form side_of on only step_of index array operator whole_steps loop_of sayings statement count records section sections zeros array_fits arrays_fit table holds has_pass statement_fits open_loops all_passes opened after_else after_end names after_op after closed statements_fit form_fits rule_fits rules_fit read_file in_front blocks tree word get put place advance cell keep result cell_number perform step choose repeat run before total listed cells laid_out placed put_back moved ran start array_ran stream_ran on_areas array_run stream_run lay_out putting_back fresh position holding next_index passed hold read_step write_step fill_step move_step each_held each holds_just same_positions row_true rows_true kept kept_all merged beginning loops next_rule next_array next_stream went row_count hold_rows row_held stated rule buffer codes same_p same_pq same_pqk identical is_buffer something below_count in_order rows_fit fits at_else at_end effect follow at take_rule no_block all_counted finish walk check_kernel checked checked_file check fault_numbers refusal_numbers check_numbers ending_numbers decimal spaced line printed shown layout afterwards tree_at
kernel_open = tt
