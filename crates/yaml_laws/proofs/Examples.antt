-- What the definitions say of small texts. Each example is named for what it shows.
use Rattle.std.proofs.Common.{◌≡◌, ℕ, List, [], ◌∷◌, ◌++◌, refl, true, false}
use Rattle.std.specs.Prelude.{codes, pos, negsuc}
use Rattle.yaml_scalars.specs.declared.scalar.Setting.{Setting}
use Rattle.yaml_scalars.specs.Lines.{Stands, Fails, Documents}
use Rattle.yaml_scalars.specs.Scalar.{scalar_at}
use Rattle.yaml_laws.specs.code.Agreement.{scalar_shown}

abbrev top : Setting
top = record { parent = negsuc 0; flow = false; one_line = false }

abbrev under : ℕ → Setting
under n = record { parent = pos n; flow = false; one_line = false }

abbrev flow : Setting
flow = record { parent = pos 0; flow = true; one_line = false }

abbrev key : Setting
key = record { parent = pos 0; flow = false; one_line = true }

-- texts in lines, each with its break
abbrev line : List ℕ → List ℕ → List ℕ
line t more = t ++ (10 ∷ more)

one_break_is_a_space_and_a_blank_line_a_newline : scalar_at (under 0) (line (codes "a ") (line (codes " b") (line [] (codes " c # d")))) 0 ≡ Stands (97 ∷ 32 ∷ 98 ∷ 10 ∷ 99 ∷ []) 9
one_break_is_a_space_and_a_blank_line_a_newline = refl

a_break_may_have_a_carriage_return : scalar_at (under 0) (97 ∷ 13 ∷ 10 ∷ 32 ∷ 98 ∷ 13 ∷ 10 ∷ []) 0 ≡ Stands (codes "a b") 5
a_break_may_have_a_carriage_return = refl

a_carriage_return_alone_fails_behind_it : scalar_at top (97 ∷ 13 ∷ 98 ∷ []) 0 ≡ Fails 2
a_carriage_return_alone_fails_behind_it = refl

a_further_line_is_indented_above_the_parent : scalar_at (under 1) (line (codes "a") (codes " b")) 0 ≡ Stands (codes "a") 1
a_further_line_is_indented_above_the_parent = refl

a_further_line_is_no_key : scalar_at top (line (codes "a") (codes "b: c")) 0 ≡ Fails 4
a_further_line_is_no_key = refl

a_further_line_may_begin_with_an_indicator : scalar_at (under 0) (line (codes "a") (codes " - &b")) 0 ≡ Stands (codes "a - &b") 7
a_further_line_may_begin_with_an_indicator = refl

a_comment_line_ends_a_scalar : scalar_at top (line (codes "a") (line (codes "#") (codes "b"))) 0 ≡ Stands (codes "a") 1
a_comment_line_ends_a_scalar = refl

a_hash_without_white_space_is_content : scalar_at top (codes "a#b #c") 0 ≡ Stands (codes "a#b") 3
a_hash_without_white_space_is_content = refl

a_mark_ends_a_scalar : scalar_at top (line (codes "a") (codes "---")) 0 ≡ Stands (codes "a") 1
a_mark_ends_a_scalar = refl

a_mark_is_no_scalar : scalar_at top (codes "...") 0 ≡ Fails 3
a_mark_is_no_scalar = refl

a_colon_needs_white_space_behind_it : scalar_at flow (codes "a:1}") 0 ≡ Stands (codes "a:1") 3
a_colon_needs_white_space_behind_it = refl

in_flow_a_mark_on_a_further_line_adds_no_space : scalar_at flow (line (codes "a") (codes "]")) 0 ≡ Stands (codes "a") 1
in_flow_a_mark_on_a_further_line_adds_no_space = refl

-- the colon on the last line shows the end: with white space behind it the scalar is the same, with a letter it goes on
a_colon_that_ends_the_text_shows_the_end : scalar_shown flow (line (codes "1.5") (codes ":")) 0 3 ≡ 5
a_colon_that_ends_the_text_shows_the_end = refl

white_space_makes_a_last_colon_an_indicator : scalar_at flow (line (codes "1.5") (codes ": ")) 0 ≡ Stands (codes "1.5") 3
white_space_makes_a_last_colon_an_indicator = refl

a_letter_makes_a_last_colon_content : scalar_at flow (line (codes "1.5") (codes ":x")) 0 ≡ Stands (codes "1.5 :x") 6
a_letter_makes_a_last_colon_content = refl

in_flow_a_tab_may_stand_in_front : scalar_at flow (line (codes "a") (9 ∷ codes "b, c")) 0 ≡ Stands (codes "a b") 4
in_flow_a_tab_may_stand_in_front = refl

a_key_ends_on_its_line : scalar_at key (line (codes "a") (codes " b")) 0 ≡ Stands (codes "a") 1
a_key_ends_on_its_line = refl

a_question_mark_fails_at_the_white_space : scalar_at top (codes "? a") 0 ≡ Fails 1
a_question_mark_fails_at_the_white_space = refl

two_single_quotes_are_one : scalar_at top (line (codes "'it''s ") (codes "  x'")) 0 ≡ Stands (codes "it's x") 12
two_single_quotes_are_one = refl

double_quotes_fold_and_escape : scalar_at top (34 ∷ line (codes "a \\") (codes "  b\\x41\\t" ++ (34 ∷ []))) 0 ≡ Stands (codes "a bA" ++ (9 ∷ [])) 15
unfolding lib.Utf8.encode
double_quotes_fold_and_escape = refl

an_escaped_break_and_a_blank_line_are_a_newline : scalar_at top (34 ∷ line (codes "a\\") (line [] (codes " b" ++ (34 ∷ [])))) 0 ≡ Stands (97 ∷ 10 ∷ 98 ∷ []) 8
an_escaped_break_and_a_blank_line_are_a_newline = refl

escaped_white_space_before_a_break_is_kept : scalar_at top (34 ∷ line (codes "a\\  ") (codes "b" ++ (34 ∷ []))) 0 ≡ Stands (codes "a  b") 8
unfolding lib.Utf8.encode
escaped_white_space_before_a_break_is_kept = refl

two_surrogates_are_one_character : scalar_at top (34 ∷ (codes "\\ud83d\\ude00" ++ (34 ∷ []))) 0 ≡ Stands (240 ∷ 159 ∷ 152 ∷ 128 ∷ []) 14
unfolding lib.Utf8.encode
two_surrogates_are_one_character = refl

a_surrogate_alone_fails : scalar_at top (34 ∷ (codes "\\udd00" ++ (34 ∷ []))) 0 ≡ Fails 4
a_surrogate_alone_fails = refl

a_mark_in_quotes_begins_a_document : scalar_at top (line (codes "'a") (line (codes "---") (codes "'"))) 0 ≡ Documents 3
a_mark_in_quotes_begins_a_document = refl

a_mark_in_quotes_at_the_end_is_too_short : scalar_at top (line (codes "'a") (codes "---")) 0 ≡ Fails 6
a_mark_in_quotes_at_the_end_is_too_short = refl

a_quoted_key_ends_on_its_line : scalar_at key (line (codes "'a") (codes "'")) 0 ≡ Fails 2
a_quoted_key_ends_on_its_line = refl

a_block_header_ends_with_a_break : scalar_at (under 0) (codes "a: |") 3 ≡ Fails 4
a_block_header_ends_with_a_break = refl

a_folded_scalar_is_stripped : scalar_at (under 0) (line (codes "A: >-") (line (codes "  one") (line (codes "  two") (line [] (line (codes "  three") (codes "B:")))))) 3 ≡ Stands (codes "one two" ++ (10 ∷ codes "three")) 27
a_folded_scalar_is_stripped = refl

white_space_keeps_the_breaks_round_a_line : scalar_at (under 0) (line (codes ">") (line (codes " a") (line (codes "  b") (line (codes " c") [])))) 0 ≡ Stands (line (codes "a") (line (codes " b") (line (codes "c") []))) 12
white_space_keeps_the_breaks_round_a_line = refl

a_digit_counts_from_0_at_the_top : scalar_at top (line (codes "|1") (line (codes "  a") [])) 0 ≡ Stands (line (codes " a") []) 7
a_digit_counts_from_0_at_the_top = refl

blank_lines_behind_a_digit_are_content : scalar_at (under 0) (line (codes "a: |1") (line (codes "   ") [])) 3 ≡ Stands (line (codes "  ") []) 10
blank_lines_behind_a_digit_are_content = refl

a_block_scalar_at_the_top_may_have_no_indentation : scalar_at top (line (codes "|") (line (codes "# a") (codes "..."))) 0 ≡ Stands (line (codes "# a") []) 6
a_block_scalar_at_the_top_may_have_no_indentation = refl

a_blank_line_may_not_be_wider : scalar_at (under 0) (line (codes "- |") (line (codes "  ") (codes " text"))) 2 ≡ Fails 8
a_blank_line_may_not_be_wider = refl

a_mark_behind_wider_blank_lines_ends_the_scalar : scalar_at top (line (codes "|+") (line (codes "   ") (codes "---"))) 0 ≡ Stands (10 ∷ []) 7
a_mark_behind_wider_blank_lines_ends_the_scalar = refl

leading_empty_lines_alone_are_clipped : scalar_at (under 0) (line (codes ">") (line [] (line [] []))) 0 ≡ Stands [] 4
leading_empty_lines_alone_are_clipped = refl

leading_empty_lines_alone_are_kept_once : scalar_at (under 0) (line (codes ">+") (line [] (line [] (codes " ")))) 0 ≡ Stands (10 ∷ 10 ∷ []) 6
leading_empty_lines_alone_are_kept_once = refl
