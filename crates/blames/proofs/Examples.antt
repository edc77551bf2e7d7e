-- The examples hold by computation.
use mathlib.Core.Path.{refl}
use Rattle.format.specs.Layout.{width, fields_with}
use Rattle.format.specs.Kind.{kind_of, body}
use Rattle.format.specs.Recipe.{cut_as, cut}
use Rattle.format.specs.Listing.{digits}
use Rattle.blames.specs.Words.{record_name, field_names, name_at, of_the, field_of, holder, words, head_words, record_words, field_words}
use Rattle.blames.specs.Examples.{Examples}

pub examples : Examples
unfolding width fields_with kind_of body cut_as cut digits record_name field_names name_at of_the field_of holder words head_words record_words field_words
examples =
    record {
      size = refl;
      kind-byte = refl;
      inside-a-field = refl;
      table-code = refl;
      transfer-size = refl;
      targets = refl;
      wide-targets = refl;
      wide-cell = refl;
      ways = refl;
    }
