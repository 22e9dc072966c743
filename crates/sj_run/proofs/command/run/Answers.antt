use Rattle.sj_run.proofs.Ending as ending
use Rattle.sj_run.proofs.Grouping as grouping
use Rattle.sj_run.proofs.Scanning as scanning
use Rattle.sj_run.proofs.command.run.Goals as goal

pub returns-clause-headline : goal.returns-clause-headline
returns-clause-headline g c = ending.ran_headline _ _ _ _ c.answer-status.ensures.ran

pub returns-clause-front : goal.returns-clause-front
returns-clause-front g c = ending.ran_front _ _ _ _ c.answer-status.ensures.ran

pub returns-clause-least : goal.returns-clause-least
returns-clause-least g c = ending.ran_least _ _ _ _ c.answer-status.ensures.ran

pub returns-clause-read_fault_writes : goal.returns-clause-read_fault_writes
returns-clause-read_fault_writes g c = ending.ran_read_fault _ _ _ _ c.answer-status.ensures.ran

pub returns-clause-input_limit_writes : goal.returns-clause-input_limit_writes
returns-clause-input_limit_writes g c = ending.ran_limit _ _ _ _ c.answer-status.ensures.ran

pub returns-clause-checked : goal.returns-clause-checked
returns-clause-checked g c = ending.ran_checked _ _ _ _ c.answer-status.ensures.ran

pub returns-clause-check_front : goal.returns-clause-check_front
returns-clause-check_front g c = ending.ran_check_front _ _ _ _ c.answer-status.ensures.ran

pub returns-clause-check_completes : goal.returns-clause-check_completes
returns-clause-check_completes g c = ending.ran_check_completes _ _ _ _ c.answer-status.ensures.ran

pub returns-clause-generated_told : goal.returns-clause-generated_told
returns-clause-generated_told g c = ending.ran_generated _ _ _ _ c.answer-status.ensures.ran

pub returns-clause-generated_front : goal.returns-clause-generated_front
returns-clause-generated_front g c = ending.ran_generated_front _ _ _ _ c.answer-status.ensures.ran

pub returns-clause-generated_completes : goal.returns-clause-generated_completes
returns-clause-generated_completes g c = ending.ran_generated_completes _ _ _ _ c.answer-status.ensures.ran

pub returns-clause-generated_within : goal.returns-clause-generated_within
returns-clause-generated_within g c = ending.ran_generated_within _ _ _ _ c.answer-status.ensures.ran

pub returns-clause-shown : goal.returns-clause-shown
returns-clause-shown g c = ending.ran_shown _ _ _ _ c.answer-status.ensures.ran

pub returns-clause-show_front : goal.returns-clause-show_front
returns-clause-show_front g c = ending.ran_show_front _ _ _ _ c.answer-status.ensures.ran

pub returns-clause-shown_again : goal.returns-clause-shown_again
returns-clause-shown_again g c = ending.ran_shown_again _ _ _ _ c.answer-status.ensures.ran

pub returns-clause-show_completes : goal.returns-clause-show_completes
returns-clause-show_completes g c = ending.ran_show_completes _ _ _ _ c.answer-status.ensures.ran

pub returns-clause-grouped : goal.returns-clause-grouped
returns-clause-grouped g c = grouping.ran_grouped _ _ _ _ c.answer-status.ensures.ran

pub returns-clause-group_front : goal.returns-clause-group_front
returns-clause-group_front g c = grouping.ran_group_front _ _ _ _ c.answer-status.ensures.ran

pub returns-clause-group_errors_first : goal.returns-clause-group_errors_first
returns-clause-group_errors_first g c = grouping.ran_group_none _ _ _ _ c.answer-status.ensures.ran

pub returns-clause-group_read_fault_writes : goal.returns-clause-group_read_fault_writes
returns-clause-group_read_fault_writes g c = grouping.ran_group_read_fault _ _ _ _ c.answer-status.ensures.ran

pub returns-clause-group_input_limit_writes : goal.returns-clause-group_input_limit_writes
returns-clause-group_input_limit_writes g c = grouping.ran_group_limit _ _ _ _ c.answer-status.ensures.ran

pub returns-clause-group_reads_to_end : goal.returns-clause-group_reads_to_end
returns-clause-group_reads_to_end g c = grouping.ran_group_to_end _ _ _ _ c.answer-status.ensures.ran

pub returns-clause-group_within : goal.returns-clause-group_within
returns-clause-group_within g c = grouping.ran_group_within _ _ _ _ c.answer-status.ensures.ran

pub returns-clause-group_completes : goal.returns-clause-group_completes
returns-clause-group_completes g c = grouping.ran_group_completes _ _ _ _ c.answer-status.ensures.ran

pub returns-clause-scanned : goal.returns-clause-scanned
returns-clause-scanned g c = scanning.ran_scanned _ _ _ _ c.answer-status.ensures.ran

pub returns-clause-scan_front : goal.returns-clause-scan_front
returns-clause-scan_front g c = scanning.ran_scan_front _ _ _ _ c.answer-status.ensures.ran

pub returns-clause-scan_least : goal.returns-clause-scan_least
returns-clause-scan_least g c = scanning.ran_scan_least _ _ _ _ c.answer-status.ensures.ran

pub returns-clause-scan_read_fault_writes : goal.returns-clause-scan_read_fault_writes
returns-clause-scan_read_fault_writes g c = scanning.ran_scan_read_fault _ _ _ _ c.answer-status.ensures.ran

pub returns-clause-scan_input_limit_writes : goal.returns-clause-scan_input_limit_writes
returns-clause-scan_input_limit_writes g c = scanning.ran_scan_limit _ _ _ _ c.answer-status.ensures.ran

pub returns-clause-scan_reads_to_end : goal.returns-clause-scan_reads_to_end
returns-clause-scan_reads_to_end g c = scanning.ran_scan_to_end _ _ _ _ c.answer-status.ensures.ran

pub returns-clause-scan_within : goal.returns-clause-scan_within
returns-clause-scan_within g c = scanning.ran_scan_within _ _ _ _ c.answer-status.ensures.ran

pub returns-clause-scan_refused : goal.returns-clause-scan_refused
returns-clause-scan_refused g c = scanning.ran_scan_refused _ _ _ _ c.answer-status.ensures.ran

pub returns-clause-scan_refuses : goal.returns-clause-scan_refuses
returns-clause-scan_refuses g c = scanning.ran_scan_refuses _ _ _ _ c.answer-status.ensures.ran

pub returns-clause-scan_completes : goal.returns-clause-scan_completes
returns-clause-scan_completes g c = scanning.ran_scan_completes _ _ _ _ c.answer-status.ensures.ran

pub returns-clause-usage : goal.returns-clause-usage
returns-clause-usage g c = ending.ran_usage _ _ _ _ c.answer-status.ensures.ran

pub returns-clause-shelf_fault : goal.returns-clause-shelf_fault
returns-clause-shelf_fault g c = ending.ran_shelf_fault _ _ _ _ c.answer-status.ensures.ran

pub returns-clause-read_fault : goal.returns-clause-read_fault
returns-clause-read_fault g c = ending.ran_read_rose _ _ _ _ c.answer-status.ensures.ran

pub returns-clause-write_fault : goal.returns-clause-write_fault
returns-clause-write_fault g c = ending.ran_write_rose _ _ _ _ c.answer-status.ensures.ran

pub returns-clause-quiet_shelf : goal.returns-clause-quiet_shelf
returns-clause-quiet_shelf g c = ending.ran_quiet _ _ _ _ c.answer-status.ensures.ran

pub returns-clause-done : goal.returns-clause-done
returns-clause-done g c = ending.ran_done _ _ _ _ c.answer-status.ensures.ran

pub returns-clause-memory : goal.returns-clause-memory
returns-clause-memory g c = ending.ran_memory _ _ _ _ c.answer-status.ensures.ran

pub returns-clause-read_to_end : goal.returns-clause-read_to_end
returns-clause-read_to_end g c = ending.ran_to_end _ _ _ _ c.answer-status.ensures.ran

pub returns-clause-refused : goal.returns-clause-refused
returns-clause-refused g c = ending.ran_refused _ _ _ _ c.answer-status.ensures.ran

pub returns-clause-refuses : goal.returns-clause-refuses
returns-clause-refuses g c = ending.ran_refuses _ _ _ _ c.answer-status.ensures.ran

pub returns-clause-too_long : goal.returns-clause-too_long
returns-clause-too_long g c = ending.ran_too_long _ _ _ _ c.answer-status.ensures.ran

pub returns-clause-finds_too_long : goal.returns-clause-finds_too_long
returns-clause-finds_too_long g c = ending.ran_finds_too_long _ _ _ _ c.answer-status.ensures.ran

pub returns-clause-too_long_reads : goal.returns-clause-too_long_reads
returns-clause-too_long_reads g c = ending.ran_too_long_reads _ _ _ _ c.answer-status.ensures.ran

pub returns-clause-absent : goal.returns-clause-absent
returns-clause-absent g c = ending.ran_absent _ _ _ _ c.answer-status.ensures.ran

pub returns-clause-input_limit : goal.returns-clause-input_limit
returns-clause-input_limit g c = ending.ran_input_limit _ _ _ _ c.answer-status.ensures.ran

pub returns-clause-finds_input_limit : goal.returns-clause-finds_input_limit
returns-clause-finds_input_limit g c = ending.ran_finds_limit _ _ _ _ c.answer-status.ensures.ran

pub returns-clause-complete : goal.returns-clause-complete
returns-clause-complete g c = ending.ran_completes _ _ _ _ c.answer-status.ensures.ran

pub returns-clause-within : goal.returns-clause-within
returns-clause-within g c = ending.ran_within _ _ _ _ c.answer-status.ensures.ran
