-- One name for all the definitions of the paper: `unfolding computed` opens every one of them, so that an example computes. A proof about one
-- definition names that definition alone. Written by tools/computed. Assumes nothing.
use lib.Ieee as Ieee
use lib.Count
use Rattle.paper.specs.Bytes
use Rattle.paper.specs.Outcome
use Rattle.paper.specs.Tests
use Rattle.paper.specs.Layout
use Rattle.paper.specs.Tags
use Rattle.paper.specs.Pieces
use Rattle.paper.specs.Keys
use Rattle.paper.specs.Ground
use Rattle.paper.specs.Judge
use Rattle.paper.specs.Calls
use Rattle.paper.specs.Block
use Rattle.paper.specs.Asked

unfoldable pub computed : Unit {0}
unfolding Bytes.num Bytes.enc Bytes.build Bytes.elems Outcome.first_of Outcome.first_bad Outcome.ordered_from Outcome.ordered Outcome.first
    Tests.all Tests.some Tests.keep Tests.index_of Tests.allows Layout.dir_at Layout.rule1 Layout.rule2 Layout.rule3 Layout.rule4 Layout.rule5
    Layout.size_of Layout.start_of Layout.entry_of Layout.entries Layout.behind Layout.rule6 Layout.bad_value Layout.rule7 Layout.next_offset
    Layout.rule8 Tags.sixteens Tags.table Tags.mask_table Tags.named Tags.in_table Tags.listed Tags.hold Tags.find Tags.has Tags.values_of
    Tags.value_of Tags.has_some Tags.rule27 Tags.rounded_up Tags.piece_count Tags.lacks Tags.rule9 Tags.fits_the_line Tags.misfits Tags.rule10
    Tags.disallowed Tags.rule11 Tags.rule12 Pieces.shares Pieces.value_parts Pieces.full_list Pieces.place_at Pieces.places_of Pieces.pieces
    Pieces.bad_piece Pieces.rule13 Pieces.touches Pieces.rule14 Keys.short Keys.minor_revision Keys.key_count Keys.rule15 Keys.key_at Keys.keys
    Keys.rule16 Keys.known_keys Keys.kind_in Keys.kind_of Keys.room Keys.right_place Keys.misplaced Keys.rule17 Keys.find_key Keys.has_key
    Keys.rule18 Keys.fixed_keys Keys.forbidden Keys.rule19 Keys.key_rules Ground.finite Ground.double Ground.all_finite Ground.rule20
    Ground.scales Ground.spans Ground.rule21 Ground.georeference Ground.last Ground.corners Ground.finite_corners Ground.rule22 Judge.head_of
    Judge.runs_of Judge.survey_of Judge.pieces_of Judge.directory_of Judge.full_of Judge.head_rules Judge.offset_rules Judge.count_rules
    Judge.entry_rules Judge.next_rules Judge.table_rules Judge.piece_rules Judge.ground_rules Judge.picture_rules Judge.survey_rules Judge.count_run
    Judge.count_in Judge.dir_run Judge.entries_in Judge.next_in Judge.view_at Judge.offset_stage Judge.count_stage Judge.entry_stage
    Judge.directory_stage Judge.directory_rules Judge.directory_parts Judge.head_run Judge.head_in Judge.view Judge.head_stage Judge.picture_stage
    Judge.survey_stage Judge.image_stage Judge.file_stage Judge.has_mask Judge.mask_head Judge.mask_lines Judge.mask_view Judge.both_parts
    Judge.both_pieces Judge.mask_picture_rules Judge.mask_rules Judge.next_stage Judge.mask_verdict Judge.rule28 Judge.mask_stage Judge.verdict_of
    Judge.rules Judge.all_pieces Judge.reading_list Calls.answer Calls.judged_in Calls.judged_of Calls.starts_of Calls.row_of Calls.row_at
    Calls.rows_in Calls.rule23 Calls.counted_in Calls.rows_of Calls.rows_over Calls.left_rows Calls.rule26 Calls.cited_in Calls.cited_of
    Calls.citation Calls.texts_in Calls.rule29 Calls.text_within Calls.text_of Calls.metadata_text Calls.back_of Calls.read_runs Calls.reading_back
    Block.joined Block.encs Block.elements Block.values_at Block.short_values Block.double_values Block.character_values Block.count_if_at
    Block.new_index Block.moved Block.moved_keys Block.entry_numbers Block.directory_numbers Block.block_directory Block.block_doubles
    Block.block_characters Block.block_bytes Block.too_far Block.rule24 Block.rule25 Block.block_verdict Block.block_in Block.block_of
    Block.block_over Block.block_left Asked.elements_of Asked.lent_runs Asked.on_list Ieee.add Ieee.sub Ieee.neg Ieee.sum Ieee.round Ieee.size
    Ieee.units Ieee.odd Ieee.span Ieee.climb Ieee.mul Ieee.of_int Ieee.of_fields Ieee.of_bits Ieee.lt Ieee.eq Count.count_trailing_zeros
computed = tt
