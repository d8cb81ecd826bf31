use Rattle.std.proofs.Common.{refl}
use Rattle.text_defs.specs.Lines.{lines, run_width, greatest}
use Rattle.widget_defs.proofs.laws.reference_items.Goals as goal

pub returns-clause-items : goal.returns-clause-items
unfolding lines run_width greatest
returns-clause-items c = record {
  row_1 = refl;
  row_2 = refl;
  row_3 = refl;
  row_4 = refl;
  row_5 = refl;
  row_6 = refl;
  row_7 = refl;
  row_8 = refl;
  row_9 = refl;
  row_10 = refl;
  row_11 = refl;
  row_12 = refl;
  row_13 = refl;
  row_14 = refl;
  row_15 = refl;
  row_16 = refl;
  row_17 = refl;
  row_18 = refl;
  row_19 = refl;
  row_20 = refl;
  row_21 = refl;
  row_22 = refl;
  row_23 = refl;
  row_24 = refl;
  row_25 = refl;
  row_26 = refl;
  row_27 = refl;
  row_28 = refl;
  row_29 = refl;
  row_30 = refl;
  row_31 = refl;
  row_32 = refl;
  row_33 = refl;
  row_34 = refl;
  row_35 = refl;
  row_36 = refl;
  row_37 = refl;
  row_38 = refl;
  row_39 = refl;
  row_40 = refl;
  row_41 = refl;
  row_42 = refl;
  row_43 = refl;
  row_44 = refl;
  row_45 = refl;
  row_46 = refl;
  row_47 = refl;
  row_48 = refl;
  row_49 = refl;
  row_50 = refl;
  row_51 = refl;
  row_52 = refl;
  row_53 = refl;
  row_54 = refl;
  row_55 = refl;
  row_56 = refl;
  row_57 = refl;
  row_58 = refl;
  row_59 = refl;
  row_60 = refl;
  row_61 = refl;
  row_62 = refl;
  row_63 = refl;
  row_64 = refl;
  row_65 = refl;
  row_66 = refl;
  row_67 = refl;
  row_68 = refl;
  row_69 = refl;
  row_70 = refl;
  row_71 = refl;
  row_72 = refl;
  row_73 = refl;
  row_74 = refl;
  row_75 = refl;
}

pub returns-clause-bars : goal.returns-clause-bars
returns-clause-bars c = record {
  bar_1 = refl;
  bar_2 = refl;
  bar_3 = refl;
  bar_4 = refl;
  bar_5 = refl;
  bar_6 = refl;
  bar_7 = refl;
  bar_8 = refl;
  bar_9 = refl;
  bar_10 = refl;
  bar_11 = refl;
  bar_12 = refl;
  bar_13 = refl;
  bar_14 = refl;
  bar_15 = refl;
  bar_16 = refl;
  bar_17 = refl;
  bar_18 = refl;
  bar_19 = refl;
  bar_20 = refl;
}

pub returns-clause-sizes : goal.returns-clause-sizes
unfolding lines run_width greatest
returns-clause-sizes c = record {
  size_1 = refl;
  size_3 = refl;
  size_6 = refl;
  size_8 = refl;
  size_11 = refl;
  size_13 = refl;
  size_14 = refl;
  size_16 = refl;
  size_18 = refl;
  size_21 = refl;
  size_23 = refl;
  size_26 = refl;
  size_28 = refl;
  size_29 = refl;
  size_31 = refl;
  size_33 = refl;
  size_36 = refl;
  size_38 = refl;
  size_41 = refl;
  size_43 = refl;
  size_44 = refl;
  size_46 = refl;
  size_48 = refl;
  size_51 = refl;
  size_53 = refl;
  size_56 = refl;
  size_58 = refl;
  size_59 = refl;
  size_61 = refl;
  size_63 = refl;
}
