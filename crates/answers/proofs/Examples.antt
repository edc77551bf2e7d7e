-- The examples hold by computation.
use mathlib.Core.Path.{refl}
use Rattle.format.specs.Bytes.{le, value, part, over, sum, same}
use Rattle.format.specs.Layout.{width, lay_with, fields_with, fixed_ok, refs_good}
use Rattle.format.specs.Form.{layout, registers, ways, cache_attributes, matrix_flags, side_attributes, ranges}
use Rattle.format.specs.Row.{column, matches, row_of, form_in}
use Rattle.format.specs.Kind.{kind_of, no_kind, body}
use Rattle.format.specs.Node.{bytes, node_at, sizes, starts, at_place, is_ordinal, at_ordinal, place_of, ordinal_of}
use Rattle.format.specs.Field.{first_bad}
use Rattle.format.specs.Recipe.{cut_as, cut, joined, setting, unset, step, fault, lacking, fault_at, run, headed, meaning}
use Rattle.format.specs.Build.{records, header, summed, table_from, build, table, written, built}
use Rattle.format.specs.Normal.{each, each_set, settings, matrix_calls, calls, calls_of, recipe_of, normal}
use Rattle.format.specs.Read.{head_fault, judge_head, framed, frames, sound, record_fault, walk, walked, accept, shown, list_in, fields_of, part_of, read, read_part}
use Rattle.format.specs.Out.{nodes_from, old, out_of, meaning_of, read_out, recipe, out_written}
use Rattle.format.specs.Listing.{digits, refused_words, sum_words}
use Rattle.text.specs.Text as shown
use Rattle.talk.specs.Words.{space_in, call_in}
use Rattle.talk.specs.Numbers.{step_to, number_from, number_in}
use Rattle.talk.specs.Hex.{value_of, all_hex, pair_of, pairs, data_in, all_are}
use Rattle.answers.specs.Lines.{refusal, success, told, carried_out, content, ending, found, seen, total, writing, asking, adding, answer_to}
use Rattle.answers.specs.Examples.{Examples}

pub examples : Examples
unfolding le value part over sum same width lay_with fields_with fixed_ok refs_good layout registers ways cache_attributes matrix_flags side_attributes ranges column matches row_of form_in kind_of no_kind body bytes node_at sizes starts at_place is_ordinal at_ordinal place_of ordinal_of cut_as cut joined setting unset step fault first_bad fault_at lacking run headed meaning records header summed table_from build table written built each each_set settings matrix_calls calls calls_of recipe_of normal head_fault judge_head framed frames sound record_fault walk walked accept shown list_in fields_of part_of read read_part nodes_from old out_of meaning_of read_out recipe out_written digits refused_words sum_words shown.glyph shown.pairs shown.hexed shown.others shown.listed space_in call_in step_to number_from number_in value_of all_hex pair_of pairs data_in all_are refusal success told carried_out content ending found seen total writing asking adding answer_to
examples =
    record {
      ok-build = refl;
      ok_out = refl;
      refused-1 = refl;
      refused-2 = refl;
      refused-12 = refl;
      refused-3 = refl;
      refused-4 = refl;
      refused-5 = refl;
      refused-5-size = refl;
      refused-5-function = refl;
      refused-6 = refl;
      refused-10 = refl;
      refused-7 = refl;
      refused-11 = refl;
      refused-8 = refl;
      refused-9 = refl;
      refused-20 = refl;
      refused-21 = refl;
      refused-22 = refl;
      refused-23 = refl;
      refused-24 = refl;
      refused-25 = refl;
      refused-26 = refl;
      refused-27 = refl;
      refused-28 = refl;
      refused-29 = refl;
      refused-30 = refl;
      refused-31 = refl;
      refused-32 = refl;
      row-0 = refl;
      row-1 = refl;
      row-2 = refl;
      row-3 = refl;
      row-3-pci = refl;
      row-4 = refl;
      row-5 = refl;
      row-6 = refl;
      row-7 = refl;
      row-8 = refl;
      row-9 = refl;
      row-10 = refl;
      row-11 = refl;
      row-12 = refl;
      row-unknown = refl;
      sum-none = refl;
      sum-table = refl;
      sum_more = refl;
      sum-odd = refl;
      sum-words = refl;
      mask-over = refl;
      no-data = refl;
      no_line = refl;
      number-over = refl;
      odd = refl;
      upper = refl;
      words = refl;
      zeros = refl;
    }
