-- C1 to C12 and the cases of orders 1, 2, 4 and 6 hold by computation.
use mathlib.Core.Path.{refl}
use Rattle.format.specs.Bytes.{le, value, part, over, sum, same}
use Rattle.format.specs.Layout.{width, lay_with, fields_with, fixed_ok, refs_good}
use Rattle.format.specs.Form.{layout, registers, ways, cache_attributes, matrix_flags, side_attributes, ranges}
use Rattle.format.specs.Row.{column, matches, row_of, form_in}
use Rattle.format.specs.Kind.{kind_of, no_kind, body}
use Rattle.format.specs.Node.{bytes, node_at, sizes, starts, at_place, is_ordinal, at_ordinal, place_of, ordinal_of}
use Rattle.format.specs.Field.{first_bad}
use Rattle.format.specs.Recipe.{cut_as, cut, joined, setting, unset, step, fault, lacking, fault_at, run, headed, meaning}
use Rattle.format.specs.Build.{records, header, summed, table_from, build, table, written, built}
use Rattle.format.specs.Normal.{each, each_set, settings, matrix_calls, calls, calls_of, recipe_of, normal}
use Rattle.format.specs.Read.{head_fault, judge_head, framed, frames, sound, record_fault, walk, walked, accept, shown, list_in, fields_of, part_of, read, read_part}
use Rattle.format.specs.Out.{nodes_from, old, out_of, meaning_of, read_out, recipe, out_written}
use Rattle.laws.specs.Cases.{CheckedByHand, ToldByHand, CedtByHand, RintcByHand, WideByHand}

pub checked : CheckedByHand
unfolding le value part over sum same width lay_with fields_with fixed_ok refs_good layout cache_attributes matrix_flags side_attributes ranges column matches row_of form_in kind_of no_kind body bytes node_at sizes starts at_place is_ordinal at_ordinal place_of ordinal_of cut_as cut joined setting unset step fault first_bad fault_at lacking run headed meaning records header summed table_from build table written built each each_set settings calls calls_of recipe_of normal head_fault judge_head framed frames sound record_fault walk walked accept shown list_in fields_of part_of read read_part nodes_from old out_of meaning_of read_out recipe out_written
checked =
    record {
      c1 = (refl, refl, refl);
      c2 = (refl, refl, refl);
      c3 = (refl, refl, refl);
      c3-resource = refl;
      c4 = (refl, refl, refl);
      c5 = (refl, refl, refl);
      c6 = refl;
      c7 = λ room. refl;
      c8 = refl;
      c8-cell = refl;
      c9 = refl;
      c10 = λ room. refl;
      c11 = λ room. refl;
      c12 = refl;
      c12-part = refl;
    }

pub told : ToldByHand
unfolding le value part width lay_with fields_with refs_good cache_attributes matrix_flags side_attributes ranges kind_of no_kind body sizes starts is_ordinal at_ordinal cut_as cut joined setting unset step fault first_bad fault_at lacking run headed meaning build
told =
    record {
      table = λ room. refl;
      size = λ room. refl;
      attributes = λ room. refl;
      first = λ room. refl;
      transfer = λ room. refl;
      initiator = λ room. refl;
      column = λ room. refl;
      side = λ room. refl;
      none = λ room. refl;
      own = λ room. refl;
      its = λ room. refl;
      parent = λ room. refl;
      level = λ room. refl;
      resource = λ room. refl;
    }

pub cedt-checked : CedtByHand
unfolding le value part over sum same width lay_with fields_with fixed_ok refs_good layout registers ways ranges column matches row_of form_in kind_of no_kind body bytes node_at sizes starts is_ordinal at_ordinal place_of cut_as cut joined step fault first_bad fault_at lacking run headed meaning records header summed table_from build table each head_fault judge_head framed frames sound record_fault walk walked accept shown fields_of read
cedt-checked =
    record {
      empty = (refl, refl, refl);
      bridge = (refl, refl, refl);
      registers = refl;
      second = (refl, refl, refl);
      more = refl;
      window = (refl, refl, refl);
      frame = refl;
      target = refl;
      maths = (refl, refl, refl);
      count = refl;
      most = refl;
      map = λ room. refl;
      ended = λ room. refl;
      fewer = λ room. refl;
      unknown = λ room. refl;
      head = λ room. refl;
      cut = λ room. refl;
      its = λ room. refl;
      many = λ room. refl;
      stray = λ room. refl;
      apart = λ room. refl;
      version = λ room. refl;
      ways = λ room. refl;
      short = refl;
      coded = refl;
      settled = refl;
      reserved = refl;
      free = refl;
    }

pub rintc-checked : RintcByHand
unfolding le value part over sum same width lay_with fields_with fixed_ok refs_good layout ranges column matches row_of form_in kind_of no_kind body bytes node_at sizes starts is_ordinal at_ordinal place_of cut_as cut step fault first_bad fault_at lacking run headed meaning records header summed table_from build table head_fault judge_head framed frames sound record_fault walk walked accept shown fields_of read nodes_from old out_of meaning_of read_out
rintc-checked =
    record {
      built = (refl, refl, refl);
      frame = refl;
      domain = refl;
      uid = refl;
      flags = refl;
      clock = refl;
      range = λ room. refl;
      cut = λ room. refl;
      retired = λ room. refl;
      first = λ room. refl;
      behind = λ room. refl;
      elsewhere = λ room. refl;
      unknown = λ room. refl;
      short = refl;
      long = refl;
      dim = refl;
      between = refl;
      flagged = refl;
      reserved = refl;
      out = λ room. refl;
      place = λ room. refl;
      later = λ room. refl;
      older = λ room. refl;
    }

pub wide-checked : WideByHand
unfolding le value part over sum same width lay_with fields_with fixed_ok refs_good layout cache_attributes matrix_flags side_attributes ranges column matches row_of form_in kind_of no_kind body bytes node_at sizes starts at_place is_ordinal at_ordinal place_of ordinal_of cut_as cut joined setting unset step fault first_bad fault_at lacking run headed meaning records header summed table_from build table written built each each_set settings calls calls_of recipe_of normal head_fault judge_head framed frames sound record_fault walk walked accept shown list_in fields_of part_of read read_part nodes_from old out_of meaning_of read_out recipe out_written matrix_calls
wide-checked =
    record {
      racks = refl;
      initiator = refl;
      target = refl;
      cell = refl;
      narrow = λ room. refl;
      wide = λ room. refl;
      between = λ room. refl;
      small = refl;
      large = refl;
      above = λ room. refl;
      second = λ room. refl;
      outside = λ room. refl;
      column = λ room. refl;
      unknown = λ room. refl;
      most = refl;
      long = λ room. refl;
      short = refl;
      past = refl;
      sixth = refl;
      bit = refl;
      dim = refl;
      old = refl;
    }
