-- `unfolding compute` opens every definition at once, for proofs by computing.
use Rattle.std.proofs.Math.Decide.{dec_le, ℕ_discrete}
use Rattle.learning.specs.Ground.{settle, spread, dists_of, reach_of, dist_of, view_of, ring_of, last_of, leg_of}
use Rattle.learning.specs.Look.{best_on, new_over, target_over, new_in, target_in}
use Rattle.learning.specs.Route.{prior_in, route_from, route_in}
use Rattle.model.specs.Basics.{every, any, member, distinct, rising, naming}
use Rattle.model.specs.Floor.{free, slow, clear, price, ahead, inside, allowed, heading, octile, goals_of, opening, opening_table}
use Rattle.model.specs.Checks.{sizes, path_room, settings, scale, benches, places, goals_hold, figures}
use Rattle.model.specs.Lookahead.{empty_ring, route, moves_along}
use Rattle.model.specs.Decision.{moves_room, state_holds, judge, forward_by, back_out_by, stay, go_back_by, learn_by, act_by, decide_by}
use Rattle.model.specs.Opening.{soundness, accepts, open_job, open_trial, reports_room, trials_hold, open_run, open_table}
use Rattle.model.specs.Ride.{next_by, ride_from_by, bound, ride_by, kept, trial_by, course_from_by, run_by}
use Rattle.model.specs.TableFile.{holds_as, check_first, second_holds, trailer_holds, check_trailer, check_ahead, find_records, first_names, places_named, second_names, same_job, record_fault, judge_records, applied, read_verdict, read_table, changed, records_of, trailer_of, file_of}
use Rattle.model.specs.TableFile.{unlike, write_verdict, write_table}
use Rattle.model.specs.Renewal.{renewed_trailer, renewed, renew_verdict, renew_file}
use Rattle.model.specs.Writing.{file_room}
use Rattle.model.specs.FloorText.{begins, size_in, header, row_holds, rows, cells_of, floor_verdict, read_floor}
use Rattle.model.specs.FloorWritten.{rows_of, text_of, text_verdict, write_floor}
use Rattle.model.specs.Line.{numbers_in, after_line, read_line_by, decimal_in, moves_field, trial_line, trial_lines, course_lines, refusal_line, judge_aisle, aisle_by}
use Rattle.model.specs.KeepDepth.{numbers_first, numbers_given, line_form, with_old_depth, depth_verdict, with_depth, lines_of, copy_lines, keep_depth}

unfoldable pub compute : Unit {0}
unfolding dec_le ℕ_discrete
    settle spread dists_of reach_of dist_of view_of ring_of last_of leg_of
    best_on new_over target_over new_in target_in prior_in route_from route_in
    every any member distinct rising naming
    free slow clear price ahead inside allowed heading octile goals_of opening opening_table
    sizes path_room settings scale benches places goals_hold figures
    empty_ring route moves_along
    moves_room state_holds judge forward_by back_out_by stay go_back_by learn_by act_by decide_by
    soundness accepts open_job open_trial reports_room trials_hold open_run open_table
    next_by ride_from_by bound ride_by kept trial_by course_from_by run_by
    holds_as check_first second_holds trailer_holds check_trailer check_ahead find_records first_names places_named second_names same_job record_fault judge_records applied read_verdict read_table changed records_of trailer_of file_of unlike file_room write_verdict write_table renewed_trailer renewed renew_verdict renew_file
    begins size_in header row_holds rows cells_of floor_verdict read_floor
    rows_of text_of text_verdict write_floor
    numbers_in after_line read_line_by decimal_in moves_field trial_line trial_lines course_lines refusal_line judge_aisle aisle_by
    numbers_first numbers_given line_form with_old_depth depth_verdict with_depth lines_of copy_lines keep_depth
compute = tt
