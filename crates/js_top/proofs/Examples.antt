-- Worked examples of reports, each computed from the definitions.
use Rattle.std.specs.Fmt.{digits}
use Rattle.std.specs.Prelude.{◌≡◌, [], ◌∷◌, Some, None, pos, true, false, refl, codes}
use Rattle.goals.specs.Signed.{Plus, Minus}
use Rattle.shared_documents.specs.Part as Part
use Rattle.shared_documents.specs.Unshared.{unshared}
use Rattle.alternatives.specs.Limit as L
use Rattle.js_commands.specs.IncludeOutcome.{Document, Certificate, Limit, SecondRefused, ReadFault}
use Rattle.js_commands.specs.CheckOutcome as K
use Rattle.js_top.specs.Report.{answer_report, compared_report, checked_report}
use Rattle.js_top.specs.declared.status.Status.TheVariants as S

-- `include` asks for a certificate, and `sat` for a document
certificate_of_include : answer_report false (Certificate (codes "certificate 1\ngoals 0\nend\n")) ≡ record
    { text = codes "certificate 1\ngoals 0\nend\n"; status = S.Done }
certificate_of_include = refl

certificate_of_sat : answer_report true (Certificate (codes "certificate 1\ngoals 0\nend\n")) ≡ record
    { text = codes "certificate 1\ngoals 0\nend\n"; status = S.Other }
certificate_of_sat = refl

limit_of_a_goal : answer_report true (Limit L.Multiples (Some (Plus 0 ∷ Minus 2 ∷ []))) ≡ record
    { text = codes "limit multiples +0 -2\n"; status = S.Limit }
unfolding digits
limit_of_a_goal = refl

limit_of_all_goals : answer_report false (Limit L.Total None) ≡ record
    { text = codes "limit total\n"; status = S.Limit }
limit_of_all_goals = refl

found_plain : answer_report true (Document (Part.number (pos 6) ∷ []) 0) ≡ record
    { text = codes "document\n6\n"; status = S.Done }
unfolding digits unshared
found_plain = refl

found_by_include : answer_report false (Document (Part.number (pos 6) ∷ []) 0) ≡ record
    { text = codes "document\n6\n"; status = S.Other }
unfolding digits unshared
found_by_include = refl

-- a number of more than 64 bits is printed as a table of one part
found_as_parts : answer_report true (Document (Part.number (pos 18446744073709551616) ∷ []) 0) ≡ record
    { text = codes "parts 1\n0 18446744073709551616\n"; status = S.Done }
unfolding digits unshared
found_as_parts = refl

refused_second : compared_report false (SecondRefused (codes "notjson"))
    ≡ record { text = codes "refused second notjson\n"; status = S.Refused }
refused_second = refl

certificate_accepted : checked_report K.Accepted ≡ record { text = codes "accepted\n"; status = S.Done }
certificate_accepted = refl

certificate_rejected : checked_report (K.Rejected 30 22) ≡ record
    { text = codes "rejected 30 22\n"; status = S.Other }
unfolding digits
certificate_rejected = refl

certificate_too_long : checked_report K.TooLong ≡ record
    { text = codes "refused certificate toolong\n"; status = S.Refused }
certificate_too_long = refl

missing_file : compared_report false ReadFault ≡ record { text = codes "readfault\n"; status = S.ReadFault }
missing_file = refl
