-- P9 and P10 of document 01, the longer forms of No. 5, the limits of No. 8 and the profiles of No. 10 hold on the definitions: antt computes them.
-- Assumes nothing.
use mathlib.Core.Path.{refl}
use Rattle.wire.specs.Fields.{read_fixed}
use Rattle.wire.specs.Numbers.{first_from, width_of, form, encode, encode_all, all_small, read_form, read_number}
use Rattle.entries.specs.Entries.{entry_from, entry_behind, records_good, entries_fault}
use Rattle.entries.specs.Fitting.{largest_within}
use Rattle.report.specs.Header.{judge_later, judge, fault_after, header_of, pairs, numbers_of, empty_header}
use Rattle.report.specs.Reader.{numbers_from, judge_entries, report_reading, report_of, entries_in}
use Rattle.report.specs.Writer.{planned, stored_as}
use Rattle.report.specs.Examples.{Examples, LongerForms, Maxima, Groups, EvenTypes, OtherProfiles}

pub examples : Examples
unfolding first_from width_of form encode encode_all all_small read_fixed read_form read_number judge_later judge fault_after header_of pairs numbers_of empty_header entry_from entry_behind records_good entries_fault numbers_from judge_entries report_reading report_of entries_in largest_within planned stored_as
examples = record {
  P9 = (refl, refl);
  P9-read = (refl, refl);
  P10-two = (refl, refl);
  P10-one = (refl, refl);
  P10-none = (refl, refl);
  P10-refused = (refl, refl);
  P10-read = (refl, refl);
}

pub longer-forms : LongerForms
unfolding first_from read_fixed read_form read_number judge_later judge records_good numbers_from judge_entries report_reading report_of
longer-forms = record {
  first = refl;
  four_bytes = refl;
  eight-bytes = refl;
  cut = refl;
  lost-before-sum = refl;
  sum-before-average = refl;
  count-before-ten = refl;
  type-before-ten = refl;
  value = refl;
  last = refl;
  last-before-ten = refl;
  shortest = refl;
}

pub maxima : Maxima
unfolding first_from width_of form encode encode_all all_small read_fixed read_form read_number judge_later judge fault_after pairs numbers_of entry_from entry_behind records_good entries_fault numbers_from judge_entries report_reading report_of largest_within planned stored_as
maxima = record {
  none = refl;
  two = (refl, refl);
  all = (refl, refl);
  above = (refl, refl);
  before-records = (refl, refl);
  count-read = (refl, refl);
  second-byte = (refl, (refl, refl));
  most = (refl, (refl, refl));
  old = refl;
}

pub groups : Groups
unfolding first_from width_of form encode encode_all all_small read_fixed read_form read_number judge_later judge fault_after header_of pairs numbers_of entry_from entry_behind records_good entries_fault numbers_from judge_entries report_reading report_of entries_in largest_within planned stored_as
groups = record {
  read = (refl, refl);
  same-group = refl;
  same-pair = refl;
  falling-object = refl;
  falling-group = refl;
  group-above = refl;
  too_few = refl;
  as-profile-one = refl;
  both-kept = refl;
  one_kept = (refl, refl);
  none_kept = (refl, refl);
  ragged = refl;
}

pub even-types : EvenTypes
unfolding first_from read_fixed read_form read_number judge_later judge header_of records_good numbers_from judge_entries report_reading report_of
even-types = record {
  shown = (refl, refl);
  nine = refl;
  odd = refl;
  falling = refl;
  equal = refl;
  in-profile-one = (refl, refl);
}

pub other-profiles : OtherProfiles
unfolding report_of
other-profiles = record { zero = (refl, refl); three = (refl, refl); largest = (refl, refl) }
