-- `crc64_near::table_0` meets its contract: each arm is the rule at its byte, computed. Assumes nothing.
use mathlib.Core.Path.{refl}
use Rattle.crc64.specs.Polynomial.{step, steps}
use Rattle.crc64.specs.Table.{swapped, entry}
use Rattle.crc64_eight.proofs.Arm.{hit, last, none}
use Rattle.crc64_near.proofs.table_0.Statement.{statement}
use Rattle.crc64_near.proofs.table_0.Tie as tie

returns : tie.Need-returns-in-0
unfolding step steps swapped entry
returns c = hit 8 c.in-0.is refl

returns-2 : tie.Need-returns-in-1
unfolding step steps swapped entry
returns-2 c = hit 8 c.in-1.is refl

returns-3 : tie.Need-returns-in-2
unfolding step steps swapped entry
returns-3 c = hit 8 c.in-2.is refl

returns-4 : tie.Need-returns-in-3
unfolding step steps swapped entry
returns-4 c = hit 8 c.in-3.is refl

returns-5 : tie.Need-returns-in-4
unfolding step steps swapped entry
returns-5 c = hit 8 c.in-4.is refl

returns-6 : tie.Need-returns-in-5
unfolding step steps swapped entry
returns-6 c = hit 8 c.in-5.is refl

returns-7 : tie.Need-returns-in-6
unfolding step steps swapped entry
returns-7 c = hit 8 c.in-6.is refl

returns-8 : tie.Need-returns-in-7
unfolding step steps swapped entry
returns-8 c = hit 8 c.in-7.is refl

returns-9 : tie.Need-returns-in-8
unfolding step steps swapped entry
returns-9 c = hit 8 c.in-8.is refl

returns-10 : tie.Need-returns-in-9
unfolding step steps swapped entry
returns-10 c = hit 8 c.in-9.is refl

returns-11 : tie.Need-returns-in-10
unfolding step steps swapped entry
returns-11 c = hit 8 c.in-10.is refl

returns-12 : tie.Need-returns-in-11
unfolding step steps swapped entry
returns-12 c = hit 8 c.in-11.is refl

returns-13 : tie.Need-returns-in-12
unfolding step steps swapped entry
returns-13 c = hit 8 c.in-12.is refl

returns-14 : tie.Need-returns-in-13
unfolding step steps swapped entry
returns-14 c = hit 8 c.in-13.is refl

returns-15 : tie.Need-returns-in-14
unfolding step steps swapped entry
returns-15 c = hit 8 c.in-14.is refl

returns-16 : tie.Need-returns-in-15
unfolding step steps swapped entry
returns-16 c = hit 8 c.in-15.is refl

returns-17 : tie.Need-returns-in-16
unfolding step steps swapped entry
returns-17 c = hit 8 c.in-16.is refl

returns-18 : tie.Need-returns-in-17
unfolding step steps swapped entry
returns-18 c = hit 8 c.in-17.is refl

returns-19 : tie.Need-returns-in-18
unfolding step steps swapped entry
returns-19 c = hit 8 c.in-18.is refl

returns-20 : tie.Need-returns-in-19
unfolding step steps swapped entry
returns-20 c = hit 8 c.in-19.is refl

returns-21 : tie.Need-returns-in-20
unfolding step steps swapped entry
returns-21 c = hit 8 c.in-20.is refl

returns-22 : tie.Need-returns-in-21
unfolding step steps swapped entry
returns-22 c = hit 8 c.in-21.is refl

returns-23 : tie.Need-returns-in-22
unfolding step steps swapped entry
returns-23 c = hit 8 c.in-22.is refl

returns-24 : tie.Need-returns-in-23
unfolding step steps swapped entry
returns-24 c = hit 8 c.in-23.is refl

returns-25 : tie.Need-returns-in-24
unfolding step steps swapped entry
returns-25 c = hit 8 c.in-24.is refl

returns-26 : tie.Need-returns-in-25
unfolding step steps swapped entry
returns-26 c = hit 8 c.in-25.is refl

returns-27 : tie.Need-returns-in-26
unfolding step steps swapped entry
returns-27 c = hit 8 c.in-26.is refl

returns-28 : tie.Need-returns-in-27
unfolding step steps swapped entry
returns-28 c = hit 8 c.in-27.is refl

returns-29 : tie.Need-returns-in-28
unfolding step steps swapped entry
returns-29 c = hit 8 c.in-28.is refl

returns-30 : tie.Need-returns-in-29
unfolding step steps swapped entry
returns-30 c = hit 8 c.in-29.is refl

returns-31 : tie.Need-returns-in-30
unfolding step steps swapped entry
returns-31 c = hit 8 c.in-30.is refl

returns-32 : tie.Need-returns-in-31
unfolding step steps swapped entry
returns-32 c = hit 8 c.in-31.is refl

returns-33 : tie.Need-returns-in-32
unfolding step steps swapped entry
returns-33 c = hit 8 c.in-32.is refl

returns-34 : tie.Need-returns-in-33
unfolding step steps swapped entry
returns-34 c = hit 8 c.in-33.is refl

returns-35 : tie.Need-returns-in-34
unfolding step steps swapped entry
returns-35 c = hit 8 c.in-34.is refl

returns-36 : tie.Need-returns-in-35
unfolding step steps swapped entry
returns-36 c = hit 8 c.in-35.is refl

returns-37 : tie.Need-returns-in-36
unfolding step steps swapped entry
returns-37 c = hit 8 c.in-36.is refl

returns-38 : tie.Need-returns-in-37
unfolding step steps swapped entry
returns-38 c = hit 8 c.in-37.is refl

returns-39 : tie.Need-returns-in-38
unfolding step steps swapped entry
returns-39 c = hit 8 c.in-38.is refl

returns-40 : tie.Need-returns-in-39
unfolding step steps swapped entry
returns-40 c = hit 8 c.in-39.is refl

returns-41 : tie.Need-returns-in-40
unfolding step steps swapped entry
returns-41 c = hit 8 c.in-40.is refl

returns-42 : tie.Need-returns-in-41
unfolding step steps swapped entry
returns-42 c = hit 8 c.in-41.is refl

returns-43 : tie.Need-returns-in-42
unfolding step steps swapped entry
returns-43 c = hit 8 c.in-42.is refl

returns-44 : tie.Need-returns-in-43
unfolding step steps swapped entry
returns-44 c = hit 8 c.in-43.is refl

returns-45 : tie.Need-returns-in-44
unfolding step steps swapped entry
returns-45 c = hit 8 c.in-44.is refl

returns-46 : tie.Need-returns-in-45
unfolding step steps swapped entry
returns-46 c = hit 8 c.in-45.is refl

returns-47 : tie.Need-returns-in-46
unfolding step steps swapped entry
returns-47 c = hit 8 c.in-46.is refl

returns-48 : tie.Need-returns-in-47
unfolding step steps swapped entry
returns-48 c = hit 8 c.in-47.is refl

returns-49 : tie.Need-returns-in-48
unfolding step steps swapped entry
returns-49 c = hit 8 c.in-48.is refl

returns-50 : tie.Need-returns-in-49
unfolding step steps swapped entry
returns-50 c = hit 8 c.in-49.is refl

returns-51 : tie.Need-returns-in-50
unfolding step steps swapped entry
returns-51 c = hit 8 c.in-50.is refl

returns-52 : tie.Need-returns-in-51
unfolding step steps swapped entry
returns-52 c = hit 8 c.in-51.is refl

returns-53 : tie.Need-returns-in-52
unfolding step steps swapped entry
returns-53 c = hit 8 c.in-52.is refl

returns-54 : tie.Need-returns-in-53
unfolding step steps swapped entry
returns-54 c = hit 8 c.in-53.is refl

returns-55 : tie.Need-returns-in-54
unfolding step steps swapped entry
returns-55 c = hit 8 c.in-54.is refl

returns-56 : tie.Need-returns-in-55
unfolding step steps swapped entry
returns-56 c = hit 8 c.in-55.is refl

returns-57 : tie.Need-returns-in-56
unfolding step steps swapped entry
returns-57 c = hit 8 c.in-56.is refl

returns-58 : tie.Need-returns-in-57
unfolding step steps swapped entry
returns-58 c = hit 8 c.in-57.is refl

returns-59 : tie.Need-returns-in-58
unfolding step steps swapped entry
returns-59 c = hit 8 c.in-58.is refl

returns-60 : tie.Need-returns-in-59
unfolding step steps swapped entry
returns-60 c = hit 8 c.in-59.is refl

returns-61 : tie.Need-returns-in-60
unfolding step steps swapped entry
returns-61 c = hit 8 c.in-60.is refl

returns-62 : tie.Need-returns-in-61
unfolding step steps swapped entry
returns-62 c = hit 8 c.in-61.is refl

returns-63 : tie.Need-returns-in-62
unfolding step steps swapped entry
returns-63 c = hit 8 c.in-62.is refl

returns-64 : tie.Need-returns-in-63
unfolding step steps swapped entry
returns-64 c = hit 8 c.in-63.is refl

returns-65 : tie.Need-returns-in-64
unfolding step steps swapped entry
returns-65 c = hit 8 c.in-64.is refl

returns-66 : tie.Need-returns-in-65
unfolding step steps swapped entry
returns-66 c = hit 8 c.in-65.is refl

returns-67 : tie.Need-returns-in-66
unfolding step steps swapped entry
returns-67 c = hit 8 c.in-66.is refl

returns-68 : tie.Need-returns-in-67
unfolding step steps swapped entry
returns-68 c = hit 8 c.in-67.is refl

returns-69 : tie.Need-returns-in-68
unfolding step steps swapped entry
returns-69 c = hit 8 c.in-68.is refl

returns-70 : tie.Need-returns-in-69
unfolding step steps swapped entry
returns-70 c = hit 8 c.in-69.is refl

returns-71 : tie.Need-returns-in-70
unfolding step steps swapped entry
returns-71 c = hit 8 c.in-70.is refl

returns-72 : tie.Need-returns-in-71
unfolding step steps swapped entry
returns-72 c = hit 8 c.in-71.is refl

returns-73 : tie.Need-returns-in-72
unfolding step steps swapped entry
returns-73 c = hit 8 c.in-72.is refl

returns-74 : tie.Need-returns-in-73
unfolding step steps swapped entry
returns-74 c = hit 8 c.in-73.is refl

returns-75 : tie.Need-returns-in-74
unfolding step steps swapped entry
returns-75 c = hit 8 c.in-74.is refl

returns-76 : tie.Need-returns-in-75
unfolding step steps swapped entry
returns-76 c = hit 8 c.in-75.is refl

returns-77 : tie.Need-returns-in-76
unfolding step steps swapped entry
returns-77 c = hit 8 c.in-76.is refl

returns-78 : tie.Need-returns-in-77
unfolding step steps swapped entry
returns-78 c = hit 8 c.in-77.is refl

returns-79 : tie.Need-returns-in-78
unfolding step steps swapped entry
returns-79 c = hit 8 c.in-78.is refl

returns-80 : tie.Need-returns-in-79
unfolding step steps swapped entry
returns-80 c = hit 8 c.in-79.is refl

returns-81 : tie.Need-returns-in-80
unfolding step steps swapped entry
returns-81 c = hit 8 c.in-80.is refl

returns-82 : tie.Need-returns-in-81
unfolding step steps swapped entry
returns-82 c = hit 8 c.in-81.is refl

returns-83 : tie.Need-returns-in-82
unfolding step steps swapped entry
returns-83 c = hit 8 c.in-82.is refl

returns-84 : tie.Need-returns-in-83
unfolding step steps swapped entry
returns-84 c = hit 8 c.in-83.is refl

returns-85 : tie.Need-returns-in-84
unfolding step steps swapped entry
returns-85 c = hit 8 c.in-84.is refl

returns-86 : tie.Need-returns-in-85
unfolding step steps swapped entry
returns-86 c = hit 8 c.in-85.is refl

returns-87 : tie.Need-returns-in-86
unfolding step steps swapped entry
returns-87 c = hit 8 c.in-86.is refl

returns-88 : tie.Need-returns-in-87
unfolding step steps swapped entry
returns-88 c = hit 8 c.in-87.is refl

returns-89 : tie.Need-returns-in-88
unfolding step steps swapped entry
returns-89 c = hit 8 c.in-88.is refl

returns-90 : tie.Need-returns-in-89
unfolding step steps swapped entry
returns-90 c = hit 8 c.in-89.is refl

returns-91 : tie.Need-returns-in-90
unfolding step steps swapped entry
returns-91 c = hit 8 c.in-90.is refl

returns-92 : tie.Need-returns-in-91
unfolding step steps swapped entry
returns-92 c = hit 8 c.in-91.is refl

returns-93 : tie.Need-returns-in-92
unfolding step steps swapped entry
returns-93 c = hit 8 c.in-92.is refl

returns-94 : tie.Need-returns-in-93
unfolding step steps swapped entry
returns-94 c = hit 8 c.in-93.is refl

returns-95 : tie.Need-returns-in-94
unfolding step steps swapped entry
returns-95 c = hit 8 c.in-94.is refl

returns-96 : tie.Need-returns-in-95
unfolding step steps swapped entry
returns-96 c = hit 8 c.in-95.is refl

returns-97 : tie.Need-returns-in-96
unfolding step steps swapped entry
returns-97 c = hit 8 c.in-96.is refl

returns-98 : tie.Need-returns-in-97
unfolding step steps swapped entry
returns-98 c = hit 8 c.in-97.is refl

returns-99 : tie.Need-returns-in-98
unfolding step steps swapped entry
returns-99 c = hit 8 c.in-98.is refl

returns-100 : tie.Need-returns-in-99
unfolding step steps swapped entry
returns-100 c = hit 8 c.in-99.is refl

returns-101 : tie.Need-returns-in-100
unfolding step steps swapped entry
returns-101 c = hit 8 c.in-100.is refl

returns-102 : tie.Need-returns-in-101
unfolding step steps swapped entry
returns-102 c = hit 8 c.in-101.is refl

returns-103 : tie.Need-returns-in-102
unfolding step steps swapped entry
returns-103 c = hit 8 c.in-102.is refl

returns-104 : tie.Need-returns-in-103
unfolding step steps swapped entry
returns-104 c = hit 8 c.in-103.is refl

returns-105 : tie.Need-returns-in-104
unfolding step steps swapped entry
returns-105 c = hit 8 c.in-104.is refl

returns-106 : tie.Need-returns-in-105
unfolding step steps swapped entry
returns-106 c = hit 8 c.in-105.is refl

returns-107 : tie.Need-returns-in-106
unfolding step steps swapped entry
returns-107 c = hit 8 c.in-106.is refl

returns-108 : tie.Need-returns-in-107
unfolding step steps swapped entry
returns-108 c = hit 8 c.in-107.is refl

returns-109 : tie.Need-returns-in-108
unfolding step steps swapped entry
returns-109 c = hit 8 c.in-108.is refl

returns-110 : tie.Need-returns-in-109
unfolding step steps swapped entry
returns-110 c = hit 8 c.in-109.is refl

returns-111 : tie.Need-returns-in-110
unfolding step steps swapped entry
returns-111 c = hit 8 c.in-110.is refl

returns-112 : tie.Need-returns-in-111
unfolding step steps swapped entry
returns-112 c = hit 8 c.in-111.is refl

returns-113 : tie.Need-returns-in-112
unfolding step steps swapped entry
returns-113 c = hit 8 c.in-112.is refl

returns-114 : tie.Need-returns-in-113
unfolding step steps swapped entry
returns-114 c = hit 8 c.in-113.is refl

returns-115 : tie.Need-returns-in-114
unfolding step steps swapped entry
returns-115 c = hit 8 c.in-114.is refl

returns-116 : tie.Need-returns-in-115
unfolding step steps swapped entry
returns-116 c = hit 8 c.in-115.is refl

returns-117 : tie.Need-returns-in-116
unfolding step steps swapped entry
returns-117 c = hit 8 c.in-116.is refl

returns-118 : tie.Need-returns-in-117
unfolding step steps swapped entry
returns-118 c = hit 8 c.in-117.is refl

returns-119 : tie.Need-returns-in-118
unfolding step steps swapped entry
returns-119 c = hit 8 c.in-118.is refl

returns-120 : tie.Need-returns-in-119
unfolding step steps swapped entry
returns-120 c = hit 8 c.in-119.is refl

returns-121 : tie.Need-returns-in-120
unfolding step steps swapped entry
returns-121 c = hit 8 c.in-120.is refl

returns-122 : tie.Need-returns-in-121
unfolding step steps swapped entry
returns-122 c = hit 8 c.in-121.is refl

returns-123 : tie.Need-returns-in-122
unfolding step steps swapped entry
returns-123 c = hit 8 c.in-122.is refl

returns-124 : tie.Need-returns-in-123
unfolding step steps swapped entry
returns-124 c = hit 8 c.in-123.is refl

returns-125 : tie.Need-returns-in-124
unfolding step steps swapped entry
returns-125 c = hit 8 c.in-124.is refl

returns-126 : tie.Need-returns-in-125
unfolding step steps swapped entry
returns-126 c = hit 8 c.in-125.is refl

returns-127 : tie.Need-returns-in-126
unfolding step steps swapped entry
returns-127 c = hit 8 c.in-126.is refl

returns-128 : tie.Need-returns-in-127
unfolding step steps swapped entry
returns-128 c = hit 8 c.in-127.is refl

returns-129 : tie.Need-returns-in-128
unfolding step steps swapped entry
returns-129 c = hit 8 c.in-128.is refl

returns-130 : tie.Need-returns-in-129
unfolding step steps swapped entry
returns-130 c = hit 8 c.in-129.is refl

returns-131 : tie.Need-returns-in-130
unfolding step steps swapped entry
returns-131 c = hit 8 c.in-130.is refl

returns-132 : tie.Need-returns-in-131
unfolding step steps swapped entry
returns-132 c = hit 8 c.in-131.is refl

returns-133 : tie.Need-returns-in-132
unfolding step steps swapped entry
returns-133 c = hit 8 c.in-132.is refl

returns-134 : tie.Need-returns-in-133
unfolding step steps swapped entry
returns-134 c = hit 8 c.in-133.is refl

returns-135 : tie.Need-returns-in-134
unfolding step steps swapped entry
returns-135 c = hit 8 c.in-134.is refl

returns-136 : tie.Need-returns-in-135
unfolding step steps swapped entry
returns-136 c = hit 8 c.in-135.is refl

returns-137 : tie.Need-returns-in-136
unfolding step steps swapped entry
returns-137 c = hit 8 c.in-136.is refl

returns-138 : tie.Need-returns-in-137
unfolding step steps swapped entry
returns-138 c = hit 8 c.in-137.is refl

returns-139 : tie.Need-returns-in-138
unfolding step steps swapped entry
returns-139 c = hit 8 c.in-138.is refl

returns-140 : tie.Need-returns-in-139
unfolding step steps swapped entry
returns-140 c = hit 8 c.in-139.is refl

returns-141 : tie.Need-returns-in-140
unfolding step steps swapped entry
returns-141 c = hit 8 c.in-140.is refl

returns-142 : tie.Need-returns-in-141
unfolding step steps swapped entry
returns-142 c = hit 8 c.in-141.is refl

returns-143 : tie.Need-returns-in-142
unfolding step steps swapped entry
returns-143 c = hit 8 c.in-142.is refl

returns-144 : tie.Need-returns-in-143
unfolding step steps swapped entry
returns-144 c = hit 8 c.in-143.is refl

returns-145 : tie.Need-returns-in-144
unfolding step steps swapped entry
returns-145 c = hit 8 c.in-144.is refl

returns-146 : tie.Need-returns-in-145
unfolding step steps swapped entry
returns-146 c = hit 8 c.in-145.is refl

returns-147 : tie.Need-returns-in-146
unfolding step steps swapped entry
returns-147 c = hit 8 c.in-146.is refl

returns-148 : tie.Need-returns-in-147
unfolding step steps swapped entry
returns-148 c = hit 8 c.in-147.is refl

returns-149 : tie.Need-returns-in-148
unfolding step steps swapped entry
returns-149 c = hit 8 c.in-148.is refl

returns-150 : tie.Need-returns-in-149
unfolding step steps swapped entry
returns-150 c = hit 8 c.in-149.is refl

returns-151 : tie.Need-returns-in-150
unfolding step steps swapped entry
returns-151 c = hit 8 c.in-150.is refl

returns-152 : tie.Need-returns-in-151
unfolding step steps swapped entry
returns-152 c = hit 8 c.in-151.is refl

returns-153 : tie.Need-returns-in-152
unfolding step steps swapped entry
returns-153 c = hit 8 c.in-152.is refl

returns-154 : tie.Need-returns-in-153
unfolding step steps swapped entry
returns-154 c = hit 8 c.in-153.is refl

returns-155 : tie.Need-returns-in-154
unfolding step steps swapped entry
returns-155 c = hit 8 c.in-154.is refl

returns-156 : tie.Need-returns-in-155
unfolding step steps swapped entry
returns-156 c = hit 8 c.in-155.is refl

returns-157 : tie.Need-returns-in-156
unfolding step steps swapped entry
returns-157 c = hit 8 c.in-156.is refl

returns-158 : tie.Need-returns-in-157
unfolding step steps swapped entry
returns-158 c = hit 8 c.in-157.is refl

returns-159 : tie.Need-returns-in-158
unfolding step steps swapped entry
returns-159 c = hit 8 c.in-158.is refl

returns-160 : tie.Need-returns-in-159
unfolding step steps swapped entry
returns-160 c = hit 8 c.in-159.is refl

returns-161 : tie.Need-returns-in-160
unfolding step steps swapped entry
returns-161 c = hit 8 c.in-160.is refl

returns-162 : tie.Need-returns-in-161
unfolding step steps swapped entry
returns-162 c = hit 8 c.in-161.is refl

returns-163 : tie.Need-returns-in-162
unfolding step steps swapped entry
returns-163 c = hit 8 c.in-162.is refl

returns-164 : tie.Need-returns-in-163
unfolding step steps swapped entry
returns-164 c = hit 8 c.in-163.is refl

returns-165 : tie.Need-returns-in-164
unfolding step steps swapped entry
returns-165 c = hit 8 c.in-164.is refl

returns-166 : tie.Need-returns-in-165
unfolding step steps swapped entry
returns-166 c = hit 8 c.in-165.is refl

returns-167 : tie.Need-returns-in-166
unfolding step steps swapped entry
returns-167 c = hit 8 c.in-166.is refl

returns-168 : tie.Need-returns-in-167
unfolding step steps swapped entry
returns-168 c = hit 8 c.in-167.is refl

returns-169 : tie.Need-returns-in-168
unfolding step steps swapped entry
returns-169 c = hit 8 c.in-168.is refl

returns-170 : tie.Need-returns-in-169
unfolding step steps swapped entry
returns-170 c = hit 8 c.in-169.is refl

returns-171 : tie.Need-returns-in-170
unfolding step steps swapped entry
returns-171 c = hit 8 c.in-170.is refl

returns-172 : tie.Need-returns-in-171
unfolding step steps swapped entry
returns-172 c = hit 8 c.in-171.is refl

returns-173 : tie.Need-returns-in-172
unfolding step steps swapped entry
returns-173 c = hit 8 c.in-172.is refl

returns-174 : tie.Need-returns-in-173
unfolding step steps swapped entry
returns-174 c = hit 8 c.in-173.is refl

returns-175 : tie.Need-returns-in-174
unfolding step steps swapped entry
returns-175 c = hit 8 c.in-174.is refl

returns-176 : tie.Need-returns-in-175
unfolding step steps swapped entry
returns-176 c = hit 8 c.in-175.is refl

returns-177 : tie.Need-returns-in-176
unfolding step steps swapped entry
returns-177 c = hit 8 c.in-176.is refl

returns-178 : tie.Need-returns-in-177
unfolding step steps swapped entry
returns-178 c = hit 8 c.in-177.is refl

returns-179 : tie.Need-returns-in-178
unfolding step steps swapped entry
returns-179 c = hit 8 c.in-178.is refl

returns-180 : tie.Need-returns-in-179
unfolding step steps swapped entry
returns-180 c = hit 8 c.in-179.is refl

returns-181 : tie.Need-returns-in-180
unfolding step steps swapped entry
returns-181 c = hit 8 c.in-180.is refl

returns-182 : tie.Need-returns-in-181
unfolding step steps swapped entry
returns-182 c = hit 8 c.in-181.is refl

returns-183 : tie.Need-returns-in-182
unfolding step steps swapped entry
returns-183 c = hit 8 c.in-182.is refl

returns-184 : tie.Need-returns-in-183
unfolding step steps swapped entry
returns-184 c = hit 8 c.in-183.is refl

returns-185 : tie.Need-returns-in-184
unfolding step steps swapped entry
returns-185 c = hit 8 c.in-184.is refl

returns-186 : tie.Need-returns-in-185
unfolding step steps swapped entry
returns-186 c = hit 8 c.in-185.is refl

returns-187 : tie.Need-returns-in-186
unfolding step steps swapped entry
returns-187 c = hit 8 c.in-186.is refl

returns-188 : tie.Need-returns-in-187
unfolding step steps swapped entry
returns-188 c = hit 8 c.in-187.is refl

returns-189 : tie.Need-returns-in-188
unfolding step steps swapped entry
returns-189 c = hit 8 c.in-188.is refl

returns-190 : tie.Need-returns-in-189
unfolding step steps swapped entry
returns-190 c = hit 8 c.in-189.is refl

returns-191 : tie.Need-returns-in-190
unfolding step steps swapped entry
returns-191 c = hit 8 c.in-190.is refl

returns-192 : tie.Need-returns-in-191
unfolding step steps swapped entry
returns-192 c = hit 8 c.in-191.is refl

returns-193 : tie.Need-returns-in-192
unfolding step steps swapped entry
returns-193 c = hit 8 c.in-192.is refl

returns-194 : tie.Need-returns-in-193
unfolding step steps swapped entry
returns-194 c = hit 8 c.in-193.is refl

returns-195 : tie.Need-returns-in-194
unfolding step steps swapped entry
returns-195 c = hit 8 c.in-194.is refl

returns-196 : tie.Need-returns-in-195
unfolding step steps swapped entry
returns-196 c = hit 8 c.in-195.is refl

returns-197 : tie.Need-returns-in-196
unfolding step steps swapped entry
returns-197 c = hit 8 c.in-196.is refl

returns-198 : tie.Need-returns-in-197
unfolding step steps swapped entry
returns-198 c = hit 8 c.in-197.is refl

returns-199 : tie.Need-returns-in-198
unfolding step steps swapped entry
returns-199 c = hit 8 c.in-198.is refl

returns-200 : tie.Need-returns-in-199
unfolding step steps swapped entry
returns-200 c = hit 8 c.in-199.is refl

returns-201 : tie.Need-returns-in-200
unfolding step steps swapped entry
returns-201 c = hit 8 c.in-200.is refl

returns-202 : tie.Need-returns-in-201
unfolding step steps swapped entry
returns-202 c = hit 8 c.in-201.is refl

returns-203 : tie.Need-returns-in-202
unfolding step steps swapped entry
returns-203 c = hit 8 c.in-202.is refl

returns-204 : tie.Need-returns-in-203
unfolding step steps swapped entry
returns-204 c = hit 8 c.in-203.is refl

returns-205 : tie.Need-returns-in-204
unfolding step steps swapped entry
returns-205 c = hit 8 c.in-204.is refl

returns-206 : tie.Need-returns-in-205
unfolding step steps swapped entry
returns-206 c = hit 8 c.in-205.is refl

returns-207 : tie.Need-returns-in-206
unfolding step steps swapped entry
returns-207 c = hit 8 c.in-206.is refl

returns-208 : tie.Need-returns-in-207
unfolding step steps swapped entry
returns-208 c = hit 8 c.in-207.is refl

returns-209 : tie.Need-returns-in-208
unfolding step steps swapped entry
returns-209 c = hit 8 c.in-208.is refl

returns-210 : tie.Need-returns-in-209
unfolding step steps swapped entry
returns-210 c = hit 8 c.in-209.is refl

returns-211 : tie.Need-returns-in-210
unfolding step steps swapped entry
returns-211 c = hit 8 c.in-210.is refl

returns-212 : tie.Need-returns-in-211
unfolding step steps swapped entry
returns-212 c = hit 8 c.in-211.is refl

returns-213 : tie.Need-returns-in-212
unfolding step steps swapped entry
returns-213 c = hit 8 c.in-212.is refl

returns-214 : tie.Need-returns-in-213
unfolding step steps swapped entry
returns-214 c = hit 8 c.in-213.is refl

returns-215 : tie.Need-returns-in-214
unfolding step steps swapped entry
returns-215 c = hit 8 c.in-214.is refl

returns-216 : tie.Need-returns-in-215
unfolding step steps swapped entry
returns-216 c = hit 8 c.in-215.is refl

returns-217 : tie.Need-returns-in-216
unfolding step steps swapped entry
returns-217 c = hit 8 c.in-216.is refl

returns-218 : tie.Need-returns-in-217
unfolding step steps swapped entry
returns-218 c = hit 8 c.in-217.is refl

returns-219 : tie.Need-returns-in-218
unfolding step steps swapped entry
returns-219 c = hit 8 c.in-218.is refl

returns-220 : tie.Need-returns-in-219
unfolding step steps swapped entry
returns-220 c = hit 8 c.in-219.is refl

returns-221 : tie.Need-returns-in-220
unfolding step steps swapped entry
returns-221 c = hit 8 c.in-220.is refl

returns-222 : tie.Need-returns-in-221
unfolding step steps swapped entry
returns-222 c = hit 8 c.in-221.is refl

returns-223 : tie.Need-returns-in-222
unfolding step steps swapped entry
returns-223 c = hit 8 c.in-222.is refl

returns-224 : tie.Need-returns-in-223
unfolding step steps swapped entry
returns-224 c = hit 8 c.in-223.is refl

returns-225 : tie.Need-returns-in-224
unfolding step steps swapped entry
returns-225 c = hit 8 c.in-224.is refl

returns-226 : tie.Need-returns-in-225
unfolding step steps swapped entry
returns-226 c = hit 8 c.in-225.is refl

returns-227 : tie.Need-returns-in-226
unfolding step steps swapped entry
returns-227 c = hit 8 c.in-226.is refl

returns-228 : tie.Need-returns-in-227
unfolding step steps swapped entry
returns-228 c = hit 8 c.in-227.is refl

returns-229 : tie.Need-returns-in-228
unfolding step steps swapped entry
returns-229 c = hit 8 c.in-228.is refl

returns-230 : tie.Need-returns-in-229
unfolding step steps swapped entry
returns-230 c = hit 8 c.in-229.is refl

returns-231 : tie.Need-returns-in-230
unfolding step steps swapped entry
returns-231 c = hit 8 c.in-230.is refl

returns-232 : tie.Need-returns-in-231
unfolding step steps swapped entry
returns-232 c = hit 8 c.in-231.is refl

returns-233 : tie.Need-returns-in-232
unfolding step steps swapped entry
returns-233 c = hit 8 c.in-232.is refl

returns-234 : tie.Need-returns-in-233
unfolding step steps swapped entry
returns-234 c = hit 8 c.in-233.is refl

returns-235 : tie.Need-returns-in-234
unfolding step steps swapped entry
returns-235 c = hit 8 c.in-234.is refl

returns-236 : tie.Need-returns-in-235
unfolding step steps swapped entry
returns-236 c = hit 8 c.in-235.is refl

returns-237 : tie.Need-returns-in-236
unfolding step steps swapped entry
returns-237 c = hit 8 c.in-236.is refl

returns-238 : tie.Need-returns-in-237
unfolding step steps swapped entry
returns-238 c = hit 8 c.in-237.is refl

returns-239 : tie.Need-returns-in-238
unfolding step steps swapped entry
returns-239 c = hit 8 c.in-238.is refl

returns-240 : tie.Need-returns-in-239
unfolding step steps swapped entry
returns-240 c = hit 8 c.in-239.is refl

returns-241 : tie.Need-returns-in-240
unfolding step steps swapped entry
returns-241 c = hit 8 c.in-240.is refl

returns-242 : tie.Need-returns-in-241
unfolding step steps swapped entry
returns-242 c = hit 8 c.in-241.is refl

returns-243 : tie.Need-returns-in-242
unfolding step steps swapped entry
returns-243 c = hit 8 c.in-242.is refl

returns-244 : tie.Need-returns-in-243
unfolding step steps swapped entry
returns-244 c = hit 8 c.in-243.is refl

returns-245 : tie.Need-returns-in-244
unfolding step steps swapped entry
returns-245 c = hit 8 c.in-244.is refl

returns-246 : tie.Need-returns-in-245
unfolding step steps swapped entry
returns-246 c = hit 8 c.in-245.is refl

returns-247 : tie.Need-returns-in-246
unfolding step steps swapped entry
returns-247 c = hit 8 c.in-246.is refl

returns-248 : tie.Need-returns-in-247
unfolding step steps swapped entry
returns-248 c = hit 8 c.in-247.is refl

returns-249 : tie.Need-returns-in-248
unfolding step steps swapped entry
returns-249 c = hit 8 c.in-248.is refl

returns-250 : tie.Need-returns-in-249
unfolding step steps swapped entry
returns-250 c = hit 8 c.in-249.is refl

returns-251 : tie.Need-returns-in-250
unfolding step steps swapped entry
returns-251 c = hit 8 c.in-250.is refl

returns-252 : tie.Need-returns-in-251
unfolding step steps swapped entry
returns-252 c = hit 8 c.in-251.is refl

returns-253 : tie.Need-returns-in-252
unfolding step steps swapped entry
returns-253 c = hit 8 c.in-252.is refl

returns-254 : tie.Need-returns-in-253
unfolding step steps swapped entry
returns-254 c = hit 8 c.in-253.is refl

returns-255 : tie.Need-returns-in-254
unfolding step steps swapped entry
returns-255 c = hit 8 c.in-254.is refl

returns-256 : tie.Need-returns-in_default
unfolding step steps swapped entry none
returns-256 c = hit 8 (last c.args.asked c.before.ranges.asked.fits c.in_default.in_default-own.rest) refl

pub table_0_spec : {M : Type 1} → statement M
table_0_spec =
    tie.close
    (tie.spec
    returns
    returns-2
    returns-3
    returns-4
    returns-5
    returns-6
    returns-7
    returns-8
    returns-9
    returns-10
    returns-11
    returns-12
    returns-13
    returns-14
    returns-15
    returns-16
    returns-17
    returns-18
    returns-19
    returns-20
    returns-21
    returns-22
    returns-23
    returns-24
    returns-25
    returns-26
    returns-27
    returns-28
    returns-29
    returns-30
    returns-31
    returns-32
    returns-33
    returns-34
    returns-35
    returns-36
    returns-37
    returns-38
    returns-39
    returns-40
    returns-41
    returns-42
    returns-43
    returns-44
    returns-45
    returns-46
    returns-47
    returns-48
    returns-49
    returns-50
    returns-51
    returns-52
    returns-53
    returns-54
    returns-55
    returns-56
    returns-57
    returns-58
    returns-59
    returns-60
    returns-61
    returns-62
    returns-63
    returns-64
    returns-65
    returns-66
    returns-67
    returns-68
    returns-69
    returns-70
    returns-71
    returns-72
    returns-73
    returns-74
    returns-75
    returns-76
    returns-77
    returns-78
    returns-79
    returns-80
    returns-81
    returns-82
    returns-83
    returns-84
    returns-85
    returns-86
    returns-87
    returns-88
    returns-89
    returns-90
    returns-91
    returns-92
    returns-93
    returns-94
    returns-95
    returns-96
    returns-97
    returns-98
    returns-99
    returns-100
    returns-101
    returns-102
    returns-103
    returns-104
    returns-105
    returns-106
    returns-107
    returns-108
    returns-109
    returns-110
    returns-111
    returns-112
    returns-113
    returns-114
    returns-115
    returns-116
    returns-117
    returns-118
    returns-119
    returns-120
    returns-121
    returns-122
    returns-123
    returns-124
    returns-125
    returns-126
    returns-127
    returns-128
    returns-129
    returns-130
    returns-131
    returns-132
    returns-133
    returns-134
    returns-135
    returns-136
    returns-137
    returns-138
    returns-139
    returns-140
    returns-141
    returns-142
    returns-143
    returns-144
    returns-145
    returns-146
    returns-147
    returns-148
    returns-149
    returns-150
    returns-151
    returns-152
    returns-153
    returns-154
    returns-155
    returns-156
    returns-157
    returns-158
    returns-159
    returns-160
    returns-161
    returns-162
    returns-163
    returns-164
    returns-165
    returns-166
    returns-167
    returns-168
    returns-169
    returns-170
    returns-171
    returns-172
    returns-173
    returns-174
    returns-175
    returns-176
    returns-177
    returns-178
    returns-179
    returns-180
    returns-181
    returns-182
    returns-183
    returns-184
    returns-185
    returns-186
    returns-187
    returns-188
    returns-189
    returns-190
    returns-191
    returns-192
    returns-193
    returns-194
    returns-195
    returns-196
    returns-197
    returns-198
    returns-199
    returns-200
    returns-201
    returns-202
    returns-203
    returns-204
    returns-205
    returns-206
    returns-207
    returns-208
    returns-209
    returns-210
    returns-211
    returns-212
    returns-213
    returns-214
    returns-215
    returns-216
    returns-217
    returns-218
    returns-219
    returns-220
    returns-221
    returns-222
    returns-223
    returns-224
    returns-225
    returns-226
    returns-227
    returns-228
    returns-229
    returns-230
    returns-231
    returns-232
    returns-233
    returns-234
    returns-235
    returns-236
    returns-237
    returns-238
    returns-239
    returns-240
    returns-241
    returns-242
    returns-243
    returns-244
    returns-245
    returns-246
    returns-247
    returns-248
    returns-249
    returns-250
    returns-251
    returns-252
    returns-253
    returns-254
    returns-255
    returns-256)
