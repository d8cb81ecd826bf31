-- Ten scripts at the corners of the rules of animations: every path at its start, middle and end; delays, the
-- way back, rounds, and for ever; percentages, contents and sizes below 0; one that takes the place of
-- another; refusals; objects that handlers delete as they move; values at the ends of a range; what devices
-- do in the same tick; objects that are not seen; and objects in a flow. Then a whole settings screen with
-- its frames.
use Rattle.std.specs.Prelude.{◌++◌, codes}
use Rattle.run_logs.specs.Samples.{Sample}

abbrev pub animated_corner_1 : Sample
animated_corner_1 = record {
  words = codes "60 40 8";
  script = codes "new 10 3 obj\nsize 10 1 2\npos 10 0 0\non 10 pressed say\n"
      ++ codes "anim 10 x 10 60 1000 0 0 1 linear\nnew 11 3 obj\nsize 11 1 2\npos 11 0 3\n"
      ++ codes "on 11 pressed say\nanim 11 x 10 60 1000 0 0 1 step\nnew 12 3 obj\nsize 12 1 2\npos 12 0 6\n"
      ++ codes "on 12 pressed say\nanim 12 x 10 60 1000 0 0 1 ease_in\nnew 13 3 obj\nsize 13 1 2\n"
      ++ codes "pos 13 0 9\non 13 pressed say\nanim 13 x 10 60 1000 0 0 1 ease_out\nnew 14 3 obj\n"
      ++ codes "size 14 1 2\npos 14 0 12\non 14 pressed say\nanim 14 x 10 60 1000 0 0 1 ease_in_out\n"
      ++ codes "tick 0\ntouch 9 0\nrelease\ntouch 10 0\nrelease\ntouch 9 3\nrelease\ntouch 10 3\nrelease\n"
      ++ codes "tick 500\ntouch 34 0\nrelease\ntouch 35 0\nrelease\ntouch 9 3\nrelease\ntouch 10 3\n"
      ++ codes "release\ntouch 17 6\nrelease\ntouch 18 6\nrelease\ntouch 49 9\nrelease\ntouch 50 9\n"
      ++ codes "release\ntouch 33 12\nrelease\ntouch 34 12\nrelease\ntick 499\ntouch 58 0\nrelease\n"
      ++ codes "touch 59 0\nrelease\ntick 1\ntouch 60 0\nrelease\ntouch 59 0\nrelease\nstop 10 x\n"
      ++ codes "stop 11 x\n";
  log = codes "1 ok\n2 ok\n3 ok\n4 ok\n5 ok\n6 ok\n7 ok\n8 ok\n9 ok\n10 ok\n11 ok\n12 ok\n13 ok\n14 ok\n"
      ++ codes "15 ok\n16 ok\n17 ok\n18 ok\n19 ok\n20 ok\n21 ok\n22 ok\n23 ok\n24 ok\n25 ok\n26 ok\n27 ok\n"
      ++ codes "28 ok\nevent pressed 10 10\n29 ok\n30 ok\n31 ok\n32 ok\nevent pressed 11 11\n33 ok\n34 ok\n"
      ++ codes "35 ok\n36 ok\n37 ok\nevent pressed 10 10\n38 ok\n39 ok\n40 ok\n41 ok\nevent pressed 11 11\n"
      ++ codes "42 ok\n43 ok\n44 ok\n45 ok\nevent pressed 12 12\n46 ok\n47 ok\n48 ok\n49 ok\n"
      ++ codes "event pressed 13 13\n50 ok\n51 ok\n52 ok\n53 ok\nevent pressed 14 14\n54 ok\n55 ok\n56 ok\n"
      ++ codes "57 ok\n58 ok\nevent pressed 10 10\n59 ok\n60 ok\n61 ok\n62 ok\n63 ok\n64 ok\n65 ok\n"
      ++ codes "66 refused unknown\n67 refused unknown\n";
}

abbrev pub animated_corner_2 : Sample
animated_corner_2 = record {
  words = codes "60 40 8";
  script = codes "new 10 3 obj\nsize 10 1 4\non 10 pressed say\nanim 10 x 5 25 100 50 40 2 linear\ntick 0\n"
      ++ codes "touch 0 0\nrelease\ntouch 5 0\nrelease\ntick 49\ntouch 0 0\nrelease\ntick 1\ntouch 5 0\n"
      ++ codes "release\ntick 99\ntouch 24 0\nrelease\ntouch 23 0\nrelease\ntick 1\ntouch 25 0\nrelease\n"
      ++ codes "tick 39\ntouch 5 0\nrelease\ntouch 6 0\nrelease\ntick 1\ntouch 5 0\nrelease\ntick 100\n"
      ++ codes "touch 25 0\nrelease\ntick 20\ntouch 15 0\nrelease\ntick 19\nstop 10 x\n"
      ++ codes "anim 10 x 7 17 10 0 0 forever step\ntick 60000\ntick 60000\ntouch 7 0\nrelease\ntouch 17 0\n"
      ++ codes "release\nstop 10 x\nstop 10 x\nanim 10 x 7 17 10 0 0 1 step\ntick 9\ntouch 7 0\nrelease\n"
      ++ codes "tick 1\ntouch 17 0\nrelease\nstop 10 x\nanim 10 x 7 17 10 0 10 1 linear\ntick 19\n"
      ++ codes "touch 8 0\nrelease\ntick 1\ntouch 7 0\nrelease\nstop 10 x\n";
  log = codes "1 ok\n2 ok\n3 ok\n4 ok\n5 ok\nevent pressed 10 10\n6 ok\n7 ok\n8 ok\n9 ok\n10 ok\n"
      ++ codes "event pressed 10 10\n11 ok\n12 ok\n13 ok\nevent pressed 10 10\n14 ok\n15 ok\n16 ok\n"
      ++ codes "event pressed 10 10\n17 ok\n18 ok\n19 ok\n20 ok\n21 ok\nevent pressed 10 10\n22 ok\n23 ok\n"
      ++ codes "24 ok\nevent pressed 10 10\n25 ok\n26 ok\n27 ok\n28 ok\n29 ok\nevent pressed 10 10\n30 ok\n"
      ++ codes "31 ok\n32 ok\nevent pressed 10 10\n33 ok\n34 ok\n35 ok\nevent pressed 10 10\n36 ok\n37 ok\n"
      ++ codes "38 ok\n39 ok\n40 ok\n41 ok\n42 ok\nevent pressed 10 10\n43 ok\n44 ok\n45 ok\n46 ok\n47 ok\n"
      ++ codes "48 refused unknown\n49 ok\n50 ok\nevent pressed 10 10\n51 ok\n52 ok\n53 ok\n"
      ++ codes "event pressed 10 10\n54 ok\n55 ok\n56 refused unknown\n57 ok\n58 ok\nevent pressed 10 10\n"
      ++ codes "59 ok\n60 ok\n61 ok\nevent pressed 10 10\n62 ok\n63 ok\n64 refused unknown\n";
}

abbrev pub animated_corner_3 : Sample
animated_corner_3 = record {
  words = codes "60 40 8";
  script = codes "new 10 3 obj\nsize 10 40 20\nnew 11 10 obj\nsize 11 50% 100%\non 10 pressed say\n"
      ++ codes "on 11 pressed say\ntouch 19 19\nrelease\ntouch 20 19\nrelease\n"
      ++ codes "anim 11 width 20 20 10 0 0 1 linear\ntick 0\nsize 10 60 30\ntouch 19 29\nrelease\n"
      ++ codes "touch 20 29\nrelease\nanim 11 height 30 10 10 0 0 1 linear\ntick 5\ntouch 19 19\nrelease\n"
      ++ codes "touch 19 20\nrelease\ntick 5\ntouch 19 9\nrelease\ntouch 19 10\nrelease\n"
      ++ codes "size 11 content content\nanim 11 width -20 -1 10 0 0 1 linear\ntick 0\ntouch 0 0\nrelease\n"
      ++ codes "anim 11 height -3 7 10 0 0 1 linear\nanim 11 width -5 5 10 0 0 1 linear\ntick 6\ntouch 0 0\n"
      ++ codes "release\ntouch 1 0\nrelease\ntouch 0 2\nrelease\ntouch 0 3\nrelease\ntick 4\ntouch 4 6\n"
      ++ codes "release\ntouch 5 6\nrelease\ntouch 4 7\nrelease\n";
  log = codes "1 ok\n2 ok\n3 ok\n4 ok\n5 ok\n6 ok\nevent pressed 11 11\n7 ok\n8 ok\nevent pressed 10 10\n"
      ++ codes "9 ok\n10 ok\n11 ok\n12 ok\n13 ok\nevent pressed 11 11\n14 ok\n15 ok\nevent pressed 10 10\n"
      ++ codes "16 ok\n17 ok\n18 ok\n19 ok\nevent pressed 11 11\n20 ok\n21 ok\nevent pressed 10 10\n22 ok\n"
      ++ codes "23 ok\n24 ok\nevent pressed 11 11\n25 ok\n26 ok\nevent pressed 10 10\n27 ok\n28 ok\n29 ok\n"
      ++ codes "30 ok\n31 ok\nevent pressed 10 10\n32 ok\n33 ok\n34 ok\n35 ok\n36 ok\nevent pressed 10 10\n"
      ++ codes "37 ok\n38 ok\nevent pressed 10 10\n39 ok\n40 ok\nevent pressed 10 10\n41 ok\n42 ok\n"
      ++ codes "event pressed 10 10\n43 ok\n44 ok\n45 ok\nevent pressed 11 11\n46 ok\n47 ok\n"
      ++ codes "event pressed 10 10\n48 ok\n49 ok\nevent pressed 10 10\n50 ok\n51 ok\n";
}

abbrev pub animated_corner_4 : Sample
animated_corner_4 = record {
  words = codes "60 40 8 anims=2";
  script = codes "new 10 3 obj\nsize 10 4 4\nnew 11 3 slider\non 10 pressed say\n"
      ++ codes "anim 10 x 0 30 30 0 0 1 linear\nanim 10 y 0 30 30 0 0 1 linear\n"
      ++ codes "anim 11 x 0 1 1 0 0 1 linear\nanim 10 x 0 40 40 0 0 1 linear\ntick 10\ntouch 10 10\n"
      ++ codes "release\ntouch 9 10\nrelease\nanim 10 x 0 40 10 5 0 1 linear\ntick 4\ntouch 10 14\nrelease\n"
      ++ codes "tick 1\ntouch 0 15\nrelease\nanim 11 value 0 1 1 0 0 1 linear\nstop 10 y\n"
      ++ codes "anim 11 value 0 1 1 0 0 1 linear\ntick 10\nanim 10 height 0 1 1 0 0 1 linear\n"
      ++ codes "anim 11 width 0 1 1 0 0 1 linear\nanim 11 x 0 1 1 0 0 1 linear\n";
  log = codes "1 ok\n2 ok\n3 ok\n4 ok\n5 ok\n6 ok\n7 refused full anims\n8 ok\n9 ok\nevent pressed 10 10\n"
      ++ codes "10 ok\n11 ok\n12 ok\n13 ok\n14 ok\n15 ok\nevent pressed 10 10\n16 ok\n17 ok\n18 ok\n"
      ++ codes "event pressed 10 10\n19 ok\n20 ok\n21 refused full anims\n22 ok\n23 ok\n24 ok\n25 ok\n"
      ++ codes "26 ok\n27 refused full anims\n";
}

abbrev pub animated_corner_5 : Sample
animated_corner_5 = record {
  words = codes "60 40 8 anims=0";
  script = codes "new 10 3 bar\nnew 11 3 label\nanim 10 x 0 1 1 0 0 1 linear\n"
      ++ codes "anim 11 value 0 1 1 0 0 1 linear\nanim 3 value 0 1 1 0 0 1 linear\n"
      ++ codes "anim 1 x 0 1 1 0 0 1 linear\nanim 12 value 0 1 1 0 0 1 linear\n"
      ++ codes "anim 12 x 0 1 0 0 0 1 linear\nanim 12 x 0 1 0 0 0 never linear\nstop 10 x\nstop 12 x\n"
      ++ codes "stop 0 x\nstop 10 z\ntick 5\n";
  log = codes "1 ok\n2 ok\n3 refused full anims\n4 refused kind\n5 refused kind\n6 refused place\n"
      ++ codes "7 refused unknown\n8 refused range\n9 refused syntax\n10 refused unknown\n"
      ++ codes "11 refused unknown\n12 refused range\n13 refused syntax\n14 ok\n";
}

abbrev pub animated_corner_6 : Sample
animated_corner_6 = record {
  words = codes "60 40 8 anims=4";
  script = codes "new 10 3 obj\nsize 10 30 30\nnew 11 10 button\nsize 11 10 10\nnew 12 11 obj\nsize 12 2 2\n"
      ++ codes "flag 12 clickable off\non 11 pressed say\non 11 long_pressed say\n"
      ++ codes "on 11 long_pressed delete 10\nanim 10 x 0 30 100 0 0 forever linear\n"
      ++ codes "anim 11 x 0 10 500 0 0 1 linear\nanim 12 y 0 10 500 0 0 1 linear\nnew 13 3 obj\n"
      ++ codes "size 13 3 3\npos 13 0 35\non 13 pressed say\nanim 13 x 0 40 400 0 0 1 linear\n"
      ++ codes "anim 13 y 35 0 1000 0 0 1 linear\ntouch 1 1\ntick 100\ntick 300\nrelease\ntouch 40 35\n"
      ++ codes "release\ntouch 39 35\nrelease\nnew 10 3 obj\nsize 10 5 5\non 10 pressed say\ntick 50\n"
      ++ codes "touch 0 0\nrelease\nstop 10 x\nanim 10 x 0 1 1 0 0 1 linear\nanim 10 y 0 1 1 0 0 1 linear\n"
      ++ codes "anim 13 y 0 1 1 0 0 1 linear\nanim 13 height 0 1 1 0 0 1 linear\n";
  log = codes "1 ok\n2 ok\n3 ok\n4 ok\n5 ok\n6 ok\n7 ok\n8 ok\n9 ok\n10 ok\n11 ok\n12 ok\n13 ok\n14 ok\n"
      ++ codes "15 ok\n16 ok\n17 ok\n18 ok\n19 refused full anims\nevent pressed 11 11\n20 ok\n21 ok\n"
      ++ codes "event long_pressed 11 11\n22 ok\n23 ok\nevent pressed 13 13\n24 ok\n25 ok\n26 ok\n27 ok\n"
      ++ codes "28 ok\n29 ok\n30 ok\n31 ok\nevent pressed 10 10\n32 ok\n33 ok\n34 refused unknown\n35 ok\n"
      ++ codes "36 ok\n37 ok\n38 ok\n";
}

abbrev pub animated_corner_7 : Sample
animated_corner_7 = record {
  words = codes "60 40 8";
  script = codes "new 10 3 slider\nsize 10 11 6\nrange 10 0 10\non 10 pressed say\non 10 value_changed say\n"
      ++ codes "anim 10 value -4 16 20 0 0 1 linear\ntick 0\ntouch 0 0\nrelease\ntick 4\ntouch 0 0\n"
      ++ codes "release\ntick 1\ntouch 0 0\nrelease\ntick 0\ntouch 1 0\nrelease\ntick 8\ntouch 9 0\n"
      ++ codes "release\ntick 2\ntouch 10 0\nrelease\nrange 10 0 20\ntick 1\ntouch 5 0\nrelease\ntouch 6 0\n"
      ++ codes "release\ntick 4\nrange 10 -10 0\ntouch 10 0\nrelease\nanim 10 value 5 -25 30 0 0 1 linear\n"
      ++ codes "tick 10\ntouch 5 0\nrelease\ntick 20\ntouch 0 0\nrelease\nstop 10 value\n";
  log = codes "1 ok\n2 ok\n3 ok\n4 ok\n5 ok\n6 ok\n7 ok\nevent pressed 10 10\n8 ok\n9 ok\n10 ok\n"
      ++ codes "event pressed 10 10\n11 ok\n12 ok\n13 ok\nevent pressed 10 10\nevent value_changed 10 10\n"
      ++ codes "14 ok\n15 ok\n16 ok\nevent pressed 10 10\n17 ok\n18 ok\n19 ok\nevent pressed 10 10\n"
      ++ codes "event value_changed 10 10\n20 ok\n21 ok\n22 ok\nevent pressed 10 10\n23 ok\n24 ok\n25 ok\n"
      ++ codes "26 ok\nevent pressed 10 10\nevent value_changed 10 10\n27 ok\n28 ok\nevent pressed 10 10\n"
      ++ codes "event value_changed 10 10\n29 ok\n30 ok\n31 ok\n32 ok\nevent pressed 10 10\n33 ok\n34 ok\n"
      ++ codes "35 ok\n36 ok\nevent pressed 10 10\n37 ok\n38 ok\n39 ok\nevent pressed 10 10\n40 ok\n41 ok\n"
      ++ codes "42 refused unknown\n";
}

abbrev pub animated_corner_8 : Sample
animated_corner_8 = record {
  words = codes "60 40 8";
  script = codes "new 10 3 slider\nsize 10 101 6\non 10 long_pressed say\non 10 value_changed say\n"
      ++ codes "on 10 long_pressed_repeat say\non 10 long_pressed value target 80\n"
      ++ codes "on 10 long_pressed_repeat value target 90\nanim 10 value 0 100 1000 0 0 1 linear\n"
      ++ codes "touch 0 0\ntick 400\ntouch 39 0\ntick 99\ntouch 48 0\ntouch 51 0\ntick 1\nrelease\n"
      ++ codes "stop 10 value\ntouch 51 0\ntouch 50 0\nrelease\n";
  log = codes "1 ok\n2 ok\n3 ok\n4 ok\n5 ok\n6 ok\n7 ok\n8 ok\n9 ok\nevent long_pressed 10 10\n10 ok\n"
      ++ codes "11 ok\n12 ok\nevent value_changed 10 10\n13 ok\nevent value_changed 10 10\n14 ok\n"
      ++ codes "event long_pressed_repeat 10 10\n15 ok\n16 ok\n17 ok\nevent value_changed 10 10\n18 ok\n"
      ++ codes "event value_changed 10 10\n19 ok\n20 ok\n";
}

abbrev pub animated_corner_9 : Sample
animated_corner_9 = record {
  words = codes "60 40 8 anims=3";
  script = codes "screen 20\nnew 10 20 obj\nsize 10 4 4\nnew 11 3 obj\nsize 11 4 4\nflag 11 hidden on\n"
      ++ codes "state 11 disabled on\nnew 12 3 obj\npos 12 50 30\nnew 13 12 obj\non 10 pressed say\n"
      ++ codes "on 11 pressed say\nanim 10 x 0 20 20 0 0 1 linear\nanim 11 y 0 20 20 0 0 1 linear\n"
      ++ codes "anim 13 x 0 20 20 0 0 1 linear\ntick 10\nflag 11 hidden off\nstate 11 disabled off\n"
      ++ codes "touch 0 9\nrelease\ntouch 0 10\nrelease\nload 20\ntouch 9 0\nrelease\ntouch 10 0\nrelease\n"
      ++ codes "anim 11 x 0 1 1 0 0 1 linear\ndelete 12\nanim 11 x 3 3 1 0 0 1 linear\nload 3\ntick 10\n"
      ++ codes "touch 2 20\nrelease\ntouch 3 20\nrelease\ndelete 20\nstop 10 x\ndelete 11\nstop 11 y\n";
  log = codes "1 ok\n2 ok\n3 ok\n4 ok\n5 ok\n6 ok\n7 ok\n8 ok\n9 ok\n10 ok\n11 ok\n12 ok\n13 ok\n14 ok\n"
      ++ codes "15 ok\n16 ok\n17 ok\n18 ok\n19 ok\n20 ok\nevent pressed 11 11\n21 ok\n22 ok\n23 ok\n24 ok\n"
      ++ codes "25 ok\nevent pressed 10 10\n26 ok\n27 ok\n28 refused full anims\n29 ok\n30 ok\n31 ok\n"
      ++ codes "32 ok\n33 ok\n34 ok\nevent pressed 11 11\n35 ok\n36 ok\n37 ok\n38 refused unknown\n39 ok\n"
      ++ codes "40 refused unknown\n";
}

abbrev pub animated_corner_10 : Sample
animated_corner_10 = record {
  words = codes "60 40 8";
  script = codes "flex 3 row\nnew 10 3 obj\nsize 10 10 10\nnew 11 3 obj\nsize 11 10 10\non 10 pressed say\n"
      ++ codes "on 11 pressed say\nanim 10 x 0 30 30 0 0 1 linear\nanim 10 width 10 25 30 0 0 1 linear\n"
      ++ codes "tick 10\ntouch 13 0\nrelease\ntouch 14 0\nrelease\ntick 20\ntouch 24 0\nrelease\n"
      ++ codes "touch 25 0\nrelease\nflex 3 none\ntouch 29 0\nrelease\ntouch 30 0\nrelease\ntouch 54 0\n"
      ++ codes "release\ntouch 55 0\nrelease\nalign 10 bottom_right 0 0\nanim 10 x 0 -35 35 0 0 1 linear\n"
      ++ codes "tick 7\ntouch 28 39\nrelease\ntouch 27 39\nrelease\ntouch 27 30\nrelease\ntouch 28 29\n"
      ++ codes "release\nparent 10 11\ntick 28\ntouch 1 1\nrelease\n";
  log = codes "1 ok\n2 ok\n3 ok\n4 ok\n5 ok\n6 ok\n7 ok\n8 ok\n9 ok\n10 ok\nevent pressed 10 10\n11 ok\n"
      ++ codes "12 ok\nevent pressed 11 11\n13 ok\n14 ok\n15 ok\nevent pressed 10 10\n16 ok\n17 ok\n"
      ++ codes "event pressed 11 11\n18 ok\n19 ok\n20 ok\n21 ok\n22 ok\nevent pressed 10 10\n23 ok\n24 ok\n"
      ++ codes "event pressed 10 10\n25 ok\n26 ok\n27 ok\n28 ok\n29 ok\n30 ok\n31 ok\nevent pressed 10 10\n"
      ++ codes "32 ok\n33 ok\n34 ok\n35 ok\n36 ok\n37 ok\n38 ok\n39 ok\n40 ok\n41 ok\nevent pressed 11 11\n"
      ++ codes "42 ok\n43 ok\n";
}

abbrev pub settings : Sample
settings = record {
  words = codes "320 240 20";
  script = codes "new 10 3 list\nsize 10 150 240\nnew 11 10 button\nnew 21 11 label\ntext 21 \"Item 1\"\n"
      ++ codes "new 12 10 button\nnew 22 12 label\ntext 22 \"Item 2\"\nnew 13 10 button\nnew 23 13 label\n"
      ++ codes "text 23 \"Item 3\"\nnew 14 10 button\nnew 24 14 label\ntext 24 \"Item 4\"\n"
      ++ codes "new 15 10 button\nnew 25 15 label\ntext 25 \"Item 5\"\nnew 16 10 button\nnew 26 16 label\n"
      ++ codes "text 26 \"Item 6\"\nnew 17 10 button\nnew 27 17 label\ntext 27 \"Item 7\"\n"
      ++ codes "new 18 10 button\nnew 28 18 label\ntext 28 \"Item 8\"\nnew 40 3 slider\npos 40 160 10\n"
      ++ codes "new 41 3 slider\npos 41 160 30\nvalue 41 70\nnew 42 3 checkbox\npos 42 160 50\n"
      ++ codes "text 42 \"Dark mode\"\nnew 43 3 bar\npos 43 160 70\nanim 43 value 0 100 1000 0 0 1 linear\n"
      ++ codes "frame\ntouch 165 55\nrelease\ntick 500\nframe\n";
  log = codes "1 ok\n2 ok\n3 ok\n4 ok\n5 ok\n6 ok\n7 ok\n8 ok\n9 ok\n10 ok\n11 ok\n12 ok\n13 ok\n14 ok\n"
      ++ codes "15 ok\n16 ok\n17 ok\n18 ok\n19 ok\n20 ok\n21 ok\n22 ok\n23 ok\n24 ok\n25 ok\n26 ok\n27 ok\n"
      ++ codes "28 ok\n29 ok\n30 ok\n31 ok\n32 ok\n33 ok\n34 ok\n35 ok\n36 ok\n37 ok\n38 frame 1 done\n"
      ++ codes "39 ok\n40 ok\n41 ok\n42 frame 2 done\n";
}
