-- The cases that are marked to be proved, all of one table, by one computation. Assumes nothing.
use mathlib.Core.Path.{◌≡◌, refl}
use Rattle.basics.specs.Lists.{among}
use Rattle.zvt_rules.specs.Reading.{unless, and_then, written_leaves}
use Rattle.zvt_rules.specs.Objects.{second_tag, tag_size, form_size, one_byte_len, two_byte_len, len_of, head_with, head_of, run_by, one_by, run_of, count_obj, count_objs}
use Rattle.zvt_rules.specs.Fields.{format_of, unknown, digits_of, unless_undecimal, digits_in, field_id, count_field, count_fields, value_of, plain_of, container_of, field_by, field_of, list_by, list_of}
use Rattle.zvt_rules.specs.Message.{long_length, length_of, header_with, header_of, layout_of, body_of, message_of, whole_header, read_of, count_body, count_of}
use Rattle.zvt_rules.specs.believed.Writing.{len_bytes, sized, obj_bytes, run_bytes, length_in, field_bytes, list_bytes, body_bytes, length_bytes, message_bytes, field_value, digit_bytes}
use Rattle.zvt_rules.specs.Shortest.{form_for, is_shortest, short_obj, short_run, short_field, short_list, short_body, short_message, is_short_obj, is_short_run, is_short_field, is_short_list, is_short_body, is_short, write, shorten}
use Rattle.zvt_rules.specs.Digits.{digit_bytes_of, decimal_from, number_of}
use Rattle.zvt_rules.specs.Values.{value_in, code_of, amount_of, receipt_of, code_in, amount_in, receipt_in, status_in, status_fields, body_fields}
use Rattle.zvt_rules.specs.Heard.{first_byte, told_in}
use Rattle.zvt_rules.specs.Answers.{outline_of, as_read_answer, read_answer, shortened, as_shorten_answer, shorten_answer, shorten_leaves}
use Rattle.zvt_rules.specs.Listed.{listed_at, listed_from, listed_body, listed_message, named_listed, asked_of}
use Rattle.zvt_rules.specs.Name.{up_to_zero, sized_name, name_in, name_of, name_at, name_bytes, card_name}
use Rattle.desk_rules.specs.Lanes.{receipt_by, line_at, line_taken}
use Rattle.desk_rules.specs.Openings.{concerns, last_from, last_line, command_of, command_bytes}
use Rattle.desk_rules.specs.Course.{heard_waiting, settled_as, completed_by, aborted_by, reported_by, moved_by, after_body, heard_running, heard_by, after_header, heard, opened_by, lane_of, needs_line, moves, answered, writes}
use Rattle.desk_rules.specs.Desk.{lines_taken, load, unless_refused, decide}
use Rattle.desk_rules.specs.Memory.{view, ended_desk, moved_desk, refused_answer, answer_by, answer_of, leaves_by, leaves_of}
use Rattle.desk_rules.specs.Runs.{total}
use Rattle.desk_rules.specs.Turnover.{net_of}
use Rattle.promises.specs.Days.{buffer}
use Rattle.promises.specs.Asking.{shown, list_shown, status, output, after_day, answer_to, computed, stated}
use Rattle.promises.specs.Cases.{hex, plain_body, two_sales, two_lines, sold_once, table}

-- The definitions answer every row of the table as it stands there.
pub cases : computed table ≡ stated table
unfolding unless and_then among second_tag tag_size form_size one_byte_len two_byte_len len_of head_with head_of run_by one_by run_of count_obj count_objs
    format_of unknown digits_of unless_undecimal digits_in field_id count_field count_fields value_of plain_of container_of field_by field_of list_by list_of
    long_length length_of header_with header_of layout_of body_of message_of whole_header read_of count_body count_of
    len_bytes sized obj_bytes run_bytes digit_bytes length_in field_bytes list_bytes body_bytes length_bytes message_bytes
    form_for is_shortest short_obj short_run short_field short_list short_body short_message is_short_obj is_short_run is_short_field is_short_list is_short_body
    is_short write shorten digit_bytes_of decimal_from number_of field_value value_in code_of amount_of receipt_of code_in amount_in receipt_in status_in
    body_fields outline_of as_read_answer read_answer shortened as_shorten_answer shorten_answer written_leaves shorten_leaves
    listed_at listed_from listed_body listed_message named_listed asked_of up_to_zero sized_name name_in name_of name_at name_bytes card_name
    receipt_by line_at command_of command_bytes
    first_byte told_in status_fields heard_waiting settled_as completed_by aborted_by reported_by moved_by after_body heard_running heard_by after_header heard
    concerns last_from last_line opened_by lane_of needs_line moves answered writes
    line_taken lines_taken load unless_refused decide view ended_desk moved_desk refused_answer answer_by answer_of leaves_by leaves_of
    total net_of
    shown list_shown status output after_day answer_to computed stated buffer
    hex plain_body two_sales two_lines sold_once table
cases = refl
